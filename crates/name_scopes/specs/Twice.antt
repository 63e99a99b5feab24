-- Identifiers that a pattern or a declaration binds twice, or that nothing may bind: the places where that is told. [Definition 2.9]
use Rattle.std.specs.Prelude.{ℕ, zero, suc, Bool, false, not, ◌&&◌, if◌then◌else◌, List, [], ◌∷◌, ◌++◌, flat_map, length, Option, Some, None}
use Rattle.std.specs.List.{list_all}
use Rattle.mlc_base.specs.declared.place.Place.{Place}
use Rattle.sml_tree.specs.BareTree as bare
use Rattle.sml_tree.specs.BareTree.{Binds, Decs, Pat}
use Rattle.sml_tree.specs.Phrases.{Phrase, dec, pat, phrases, rule}
use Rattle.core_rules.specs.Match.{is_variable}
use Rattle.core_rules.specs.Restrictions.{distinct, is_kept, unless}
use Rattle.core_rules.specs.Unbound.{decs_in, parts_in}
use Rattle.core_rules.specs.Values.{Env, Found, long_value_in, value_in}
use Rattle.core_rules.specs.Words.{same_vid}
use Rattle.name_scopes.specs.Patterns.{binds_vids, pat_vids, rec_vids}

-- a constructor or an exception
abbrev pub is_matched : Option Found → Bool
is_matched o = elim o [ None ↦ false | Some f ↦ not (is_variable f.status) ]

abbrev pub pat_place : Pat → Place
pat_place (bare.wild_pat p) = p
pat_place (bare.constant_pat p c) = p
pat_place (bare.vid_pat p x) = p
pat_place (bare.built_pat p b) = p
pat_place (bare.fields_pat p fs further) = p
pat_place (bare.con_pat p q x a) = p
pat_place (bare.built_con_pat p b a) = p
pat_place (bare.typed_pat p a t) = p
pat_place (bare.as_pat p x t a) = p

-- bindings, and their patterns
abbrev pub binding_places : Binds → List Place
binding_places bare.no_binds = []
binding_places (bare.bind p a b bs) = p ∷ pat_place a ∷ binding_places bs

-- an identifier that stands alone and is bound there is no kept one; before `as` it is no constructor or exception either
abbrev pub alone_kept : List ℕ → Bool → Bool → Place → List Place
alone_kept [] matched kept p = if matched then [] else unless (not kept) p
alone_kept (q ∷ qs) matched kept p = []

abbrev pub own_twice : Env → Phrase → List Place
own_twice e (pat (bare.vid_pat p x)) = alone_kept x.qualifiers (is_matched (long_value_in e x)) (is_kept x.vid) p
own_twice e (pat (bare.as_pat p x t a)) = unless (not (is_matched (value_in e x)) && not (is_kept x)) p
own_twice e (rule p a b) = if distinct same_vid (pat_vids e a) then [] else p ∷ pat_place a ∷ []
own_twice e (dec (bare.val_dec p q as_ bs rs)) =
    if distinct same_vid (binds_vids e bs ++ rec_vids rs) && list_all (λ x. not (is_kept x)) (rec_vids rs) then []
    else p ∷ binding_places bs ++ binding_places rs
own_twice e x = []

-- so many levels deep
abbrev pub twice_to : ℕ → Env → Phrase → List Place
twice_to zero e x = []
twice_to (suc k) e x = own_twice e x ++ flat_map (λ s. twice_to k s.scope s.phrase) (parts_in e x)

-- no phrase is deeper than it has phrases
abbrev pub twice_in : Env → Decs → List Place
twice_in e ds = flat_map (λ s. twice_to (length (phrases s.phrase)) s.scope s.phrase) (decs_in e ds)
