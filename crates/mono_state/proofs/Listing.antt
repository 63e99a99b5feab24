-- Types of a list, closed one after the other.
use Rattle.std.proofs.Common.{◌≡◌, ◌<◌, ◌≤◌, ◌+◌, ℕ, List, [], ◌∷◌, ◌++◌, map, length, take, slice_get, Some, refl, sym, ap, ap₂, ◌∙◌, subst}
use Rattle.std.specs.Prelude.{slice_index_or}
use Rattle.std.proofs.lemmas.List.{map-append, take_more}
use Rattle.std.proofs.Math.Seq.{take-length}
use Rattle.ty_core.specs.Types.{Typ}
use Rattle.ty_core.specs.Statics.{replace}
use Rattle.ty_core.specs.declared.mark.Mark.TheVariants.{Any}
use Rattle.ty_core.specs.declared.scheme.Quantified.{Quantified}
use Rattle.ty_table.specs.TypeAt.{type_at, AllBelow}
use Rattle.monomorphise.specs.Monomorphise.{unit_for, units}
use Rattle.mono_close.specs.Closing.{standing}
use Rattle.mono_close.proofs.Tables.{below-longer, length-longer, type-longer, type-got, type-held, then-longer}
use Rattle.mono_names.specs.Numbers.{IsNumbered}
use Rattle.mlc_runs.specs.Passes.{greatest_expansion}
use Rattle.mono_state.specs.Seen.{Held, held_of, Longer, Later, seen}
use Rattle.mono_state.specs.Going.{IsHeld, IsOpen, Goes}
use Rattle.mono_state.specs.declared.copier.Copier.{Copier}
use Rattle.mono_state.proofs.Growing.{sooner, with-lists, lists-longer}
use Rattle.mono_state.proofs.Going.{goes-then, goes-on, goes-nowhere}

pub below-end : (n : ℕ) (ns : List ℕ) (k : ℕ) → AllBelow n ns → k < n → AllBelow n (ns ++ k ∷ [])
below-end n [] k b h = (h, tt)
below-end n (m ∷ ns) k b h = (b.0, below-end n ns k b.1 h)

-- the types ks are closed as ns
pub record Closed (sources : List Typ) (old now : Copier) (ks ns : List ℕ) : Type 0 where
  pub goes : Goes sources old now
  pub stays : (ss : List (List ℕ)) (H : Held) → seen ss H now ≡ seen ss H old
  pub is : (H : Held) → Later (held_of now) H → map (type_at H.types) ns ≡ map (replace (standing H.types old.slots)) (map (type_at sources) ks)
  pub below : AllBelow (length now.closed) ns

pub closed-none : (sources : List Typ) (old : Copier) (ns : List ℕ) → IsOpen old → ns ≡ [] → Closed sources old old [] ns
closed-none sources old ns o e = record {
  goes = goes-nowhere sources old o;
  stays = λ ss H. refl;
  is = λ H l. ap (map (type_at H.types)) e;
  below = subst (AllBelow (length old.closed)) (sym e) tt;
}

pub closed-more : (sources : List Typ) (old now new : Copier) (ks more ns items : List ℕ) (k n : ℕ) → Closed sources old now ks ns → Goes sources now new
    → ((ss : List (List ℕ)) (H : Held) → seen ss H new ≡ seen ss H now)
    → ((H : Held) → Later (held_of new) H → type_at H.types n ≡ replace (standing H.types now.slots) (type_at sources k)) → n < length new.closed
    → more ≡ ks ++ k ∷ [] → items ≡ ns ++ n ∷ [] → Closed sources old new more items
closed-more sources old now new ks more ns items k n c g s i h p q = record {
  goes = goes-then sources old now new c.goes g;
  stays = λ ss H. s ss H ∙ c.stays ss H;
  is = λ H l.
      ap (map (type_at H.types)) q ∙ map-append (type_at H.types) ns (n ∷ [])
      ∙ ap₂ (λ x y. x ++ y ∷ []) (c.is H (sooner g.longer l)) (i H l ∙ ap (λ z. replace (standing H.types z) (type_at sources k)) c.goes.slots)
      ∙ sym (ap (λ z. map (replace (standing H.types old.slots)) (map (type_at sources) z)) p
      ∙ ap (map (replace (standing H.types old.slots))) (map-append (type_at sources) ks (k ∷ []))
      ∙ map-append (replace (standing H.types old.slots)) (map (type_at sources) ks) (type_at sources k ∷ []));
  below = subst (AllBelow (length new.closed)) (sym q)
      (below-end (length new.closed) ns n (below-longer (length now.closed) (length new.closed) ns (length-longer now.closed new.closed g.longer.types) c.below) h);
}

-- the list has its number
pub list-goes : (sources : List Typ) (old now new : Copier) (ns : List ℕ) (k : ℕ) → Goes sources old now → IsNumbered now.lists ns k new.lists → new.closed ≡ now.closed → new.copies ≡ now.copies
    → new.scopes ≡ now.scopes → new.slots ≡ now.slots → new.own ≡ now.own → new.known ≡ now.known → new.nodes ≡ now.nodes → Goes sources old new
list-goes sources old now new ns k g i a b d e f m n = goes-then sources old now new g
    (goes-on sources now new g.open_
    (subst (λ z. Longer (held_of now) (record { types = new.closed; lists = new.lists; copies = z })) (sym b)
    (subst (λ z. Longer (held_of now) (record { types = z; lists = new.lists; copies = now.copies })) (sym a) (with-lists (held_of now) new.lists (lists-longer now.lists ns k new.lists i))))
    d e f m (subst (λ z. z ≤ greatest_expansion) (sym n) g.open_.few))

pub list-held : (T : Held) (ns : List ℕ) (k : ℕ) → slice_get T.lists k ≡ Some ns → AllBelow (length T.types) ns → IsHeld T k
list-held T ns k e b = record { numbers = ns; there = e; below = b }

-- units

pub same-types : (us ws : List Typ) (ns : List ℕ) → take (length us) ws ≡ us → AllBelow (length us) ns → map (type_at ws) ns ≡ map (type_at us) ns
same-types us ws [] g b = refl
same-types us ws (n ∷ ns) g b = ap₂ (λ t ts. t ∷ ts) (type-longer us ws n g b.0) (same-types us ws ns g b.1)

units-end : (ps : List Quantified) (p : Quantified) → units (ps ++ p ∷ []) ≡ units ps ++ unit_for p.mark ∷ []
units-end [] p = refl
units-end (q ∷ ps) p = ap (λ ts. unit_for q.mark ∷ ts) (units-end ps p)

pub record Units (old now : List Typ) (ps : List Quantified) (ns : List ℕ) : Type 0 where
  pub stay : take (length old) now ≡ old
  pub is : map (type_at now) ns ≡ units ps
  pub below : AllBelow (length now) ns

pub units-none : (old : List Typ) (ns : List ℕ) → ns ≡ [] → Units old old [] ns
units-none old ns e = record { stay = take-length old; is = ap (map (type_at old)) e; below = subst (AllBelow (length old)) (sym e) tt }

pub units-more : (old now new : List Typ) (ps more : List Quantified) (p : Quantified) (ns items : List ℕ) (n : ℕ) → Units old now ps ns → take (length now) new ≡ now
    → slice_get new n ≡ Some (unit_for p.mark) → more ≡ ps ++ p ∷ [] → items ≡ ns ++ n ∷ [] → Units old new more items
units-more old now new ps more p ns items n u g e q r = record {
  stay = then-longer old now new u.stay g;
  is = ap (map (type_at new)) r ∙ map-append (type_at new) ns (n ∷ [])
      ∙ ap₂ (λ x y. x ++ y ∷ []) (same-types now new ns g u.below ∙ u.is) (type-got new n (unit_for p.mark) e)
      ∙ sym (ap units q ∙ units-end ps p);
  below = subst (AllBelow (length new)) (sym r)
      (below-end (length new) ns n (below-longer (length now) (length new) ns (length-longer now new g) u.below) (type-held new n (unit_for p.mark) e));
}

-- the parameter at a place
pub units-at : (old now new : List Typ) (ps : List Quantified) (i : ℕ) (ns items : List ℕ) (n : ℕ) → i < length ps → Units old now (take i ps) ns → take (length now) new ≡ now
    → slice_get new n ≡ Some (unit_for (slice_index_or ps i (record { variable = 0; mark = Any })).mark) → items ≡ ns ++ n ∷ [] → Units old new (take (i + 1) ps) items
units-at old now new ps i ns items n lt u g e r =
    units-more old now new (take i ps) (take (i + 1) ps) (slice_index_or ps i (record { variable = 0; mark = Any })) ns items n u g e (take_more ps i (record { variable = 0; mark = Any }) lt) r
