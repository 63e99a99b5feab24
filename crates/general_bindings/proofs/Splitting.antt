-- The fields of a record, each in a variable of its own.
use Rattle.std.proofs.Common.{◌≡◌, ◌<◌, ◌≤◌, ◌+◌, ℕ, suc, List, [], ◌∷◌, ◌++◌, length, drop, slice_index_or, refl, sym, ap, ap₂, ◌∙◌, arith}
use Rattle.ty_core.specs.Types.{Typ}
use Rattle.match_compile.specs.Compile.{Spots, no_spots, spot, part, past_split, split_spots}
use Rattle.plain_tree.specs.declared.tree.Step.{Step}
use Rattle.pattern_tests.specs.of_match_types.Views.{View, Keeps, Stands, value_type}
use Rattle.pattern_tests.specs.of_match_types.declared.work.Work.{Work}
use Rattle.pattern_tests.proofs.of_match_types.Seeing.{keeps-same, keeps-on, sees-before, stands-on}
use Rattle.pattern_tests.specs.of_match_steps.Steps.{Puts, Leads, stand}
use Rattle.pattern_tests.specs.declared.spots.Spot.{Spot}
use Rattle.pattern_tests.proofs.Chains.{next-drop}
use Rattle.general_bindings.specs.General.{listed, over_scope, general, spots_before, spots_of, splitting}
use Rattle.general_bindings.proofs.Rows.{before-more, drop-whole}

-- what is left after the first i
pub record SplitTo (old now : Work) (before after : List Step) (k r ty : ℕ) (ss : List Spot) (i : ℕ) (made : List Spot) : Type 0 where
  pub next : (v : View) → past_split (spots_of v (drop i ss)) now.next ≡ past_split (spots_of v ss) old.next
  pub keeps : Keeps old now
  pub found : (v : View) → spots_before v made (split_spots (spots_of v (drop i ss)) now.next no_spots) ≡ split_spots (spots_of v ss) old.next no_spots
  pub leads : (u : View → Typ) → Stands old ty (over_scope u) → Leads now before after (λ v rest. splitting v.scope (listed k v) (u v) r (spots_of v ss) 1 old.next rest)
      (λ v rest. splitting v.scope (listed k v) (u v) r (spots_of v (drop i ss)) (i + 1) now.next rest)

pub split-none : (w : Work) (s : List Step) (k r ty : ℕ) (ss made : List Spot) → made ≡ [] → SplitTo w w s s k r ty ss 0 made
split-none w s k r ty ss made none = record {
  next = λ v. refl;
  keeps = keeps-same w;
  found = λ v. ap (λ l. spots_before v l (split_spots (spots_of v ss) w.next no_spots)) none;
  leads = λ u stands. record { leads = λ v sees rest. refl };
}

pub split-more : (old now new : Work) (before mid after : List Step) (k r ty : ℕ) (ss : List Spot) (i : ℕ) (x made : Spot) (all more : List Spot) → i < length ss → x ≡ slice_index_or ss i x
    → SplitTo old now before mid k r ty ss i all → Keeps now new → new.next ≡ suc (suc (suc now.next)) → made.variable ≡ x.variable → made.number ≡ suc (suc now.next) → made.ty ≡ x.ty → more ≡ all ++ made ∷ []
    → ((u : View → Typ) → Stands now ty (over_scope u)
    → Puts new mid after (general k (suc (suc now.next)) (over_scope (λ v. value_type v x.ty)) (λ v. part v.scope (listed k v) (u v) r (i + 1) (value_type v x.ty) now.next)))
    → SplitTo old new before after k r ty ss (i + 1) more
split-more old now new before mid after k r ty ss i x made all more lt is h keeps next variable number typed e puts = record {
  next = λ v. ap (past_split (rest v)) next ∙ sym (ap (λ vs. past_split vs now.next) (here v)) ∙ h.next v;
  keeps = keeps-on old now new h.keeps keeps;
  found = λ v.
      let us = split_spots (rest v) new.next no_spots in
      ap (λ l. spots_before v l us) e ∙ before-more v all made us
      ∙ ap (λ s. spots_before v all s) (ap₂ (λ n a. spot n a (value_type v made.ty) us) variable number ∙ ap₂ (λ t j. spot x.variable (suc (suc now.next)) (value_type v t) (split_spots (rest v) j no_spots)) typed next)
      ∙ sym (ap (λ vs. spots_before v all (split_spots vs now.next no_spots)) (here v)) ∙ h.found v;
  leads = λ u stands. record {
    leads = λ v sees tail.
        (puts u (stands-on old now ty (over_scope u) h.keeps stands)).leads v sees (splitting v.scope (listed k v) (u v) r (rest v) (i + 1 + 1) new.next tail)
        ∙ ap₂ (λ l j. stand v mid (general k (suc (suc now.next)) (over_scope (λ w. value_type w x.ty)) (λ w. part w.scope (listed k w) (u w) r (i + 1) (value_type w x.ty) now.next) v
        (splitting v.scope (listed k v) (u v) r (rest v) l j tail))) (let o : i + 1 + 1 ≡ suc (i + 1) = omega arith in o) next
        ∙ sym (ap (λ vs. stand v mid (splitting v.scope (listed k v) (u v) r vs (i + 1) now.next tail)) (here v))
        ∙ (h.leads u stands).leads v (sees-before now new v keeps sees) tail;
  };
}
  where
    rest : View → Spots
    rest v = spots_of v (drop (i + 1) ss)

    here : (v : View) → spots_of v (drop i ss) ≡ spot x.variable x.number (value_type v x.ty) (rest v)
    here v = ap (spots_of v) (next-drop ss i x lt is)

module _ (old now : Work) (before after : List Step) (k r ty : ℕ) (ss : List Spot) (i : ℕ) (made : List Spot) (le : length ss ≤ i) (h : SplitTo old now before after k r ty ss i made) where
  pub split-next : (v : View) → now.next ≡ past_split (spots_of v ss) old.next
  split-next v = sym (ap (λ l. past_split (spots_of v l) now.next) (drop-whole ss i le)) ∙ h.next v

  pub split-made : (v : View) → spots_of v made ≡ split_spots (spots_of v ss) old.next no_spots
  split-made v = sym (ap (λ l. spots_before v made (split_spots (spots_of v l) now.next no_spots)) (drop-whole ss i le)) ∙ h.found v

  pub split-puts : (u : View → Typ) → Stands old ty (over_scope u) → Puts now before after (λ v rest. splitting v.scope (listed k v) (u v) r (spots_of v ss) 1 old.next rest)
  split-puts u stands = record {
    leads = λ v sees rest.
        sym (ap (λ l. stand v after (splitting v.scope (listed k v) (u v) r (spots_of v l) (i + 1) now.next rest)) (drop-whole ss i le)) ∙ (h.leads u stands).leads v sees rest;
  }
