-- The copies of a whole program.
use Rattle.std.proofs.Common.{◌≡◌, ◌<◌, ◌+◌, ℕ, false, List, [], map, reverse, ap, ◌∙◌, arith}
use Rattle.std.proofs.lemmas.List.{append-nil}
use Rattle.mlc_runs.specs.Passes.{greatest_expansion}
use Rattle.ty_core.specs.Types.{Typ}
use Rattle.ty_table.specs.TypeAt.{type_at}
use Rattle.ir_plain.specs.Weight.{weight}
use Rattle.ir_tables.specs.Tables.{strings_of}
use Rattle.ir_tables.specs.declared.tables.Tables.{Tables}
use Rattle.plain_tree.specs.declared.tree.Exp as code
use Rattle.monomorphise.specs.Expansion.{compared}
use Rattle.monomorphise.specs.Monomorphise.{nowhere, copies}
use Rattle.mono_close.specs.Closing.{standing}
use Rattle.mono_words.specs.Words.{spell}
use Rattle.mono_words.specs.Seen.{Seen}
use Rattle.mono_words.specs.Made.{exp_made}
use Rattle.mono_parts.specs.of_mono_state.Seen.{Held, held_of, Later, groups_in, seen, sign_of}
use Rattle.mono_parts.specs.of_mono_state.declared.copier.Copier.{Copier}
use Rattle.mono_copy.specs.Puts.{Puts, Passes}
use Rattle.mono_copy.specs.Changes.{exp_in, exp_put}

abbrev empty : Seen
empty = record { signs = []; scopes = []; compared = []; nodes = 0 }

module _ (t : Tables) (e : code.Exp) (old : Copier) (own : old.own ≡ []) (slots : old.slots ≡ []) (none : (ss : List (List ℕ)) (H : Held) → seen ss H old ≡ record { signs = []; scopes = []; compared = []; nodes = 0 }) where
  stood : (us : List Typ) → standing us [] ≡ nowhere
  stood us = λ i v. nowhere v

  from-nothing : (H : Held) → exp_put t false e H (groups_in H old.own) (standing H.types old.slots) (seen (strings_of t) H old) ≡ exp_made false [] nowhere (exp_in t e) empty
  from-nothing H =
      (λ i. exp_made false (groups_in H (own i)) (standing H.types (slots i)) (exp_in t e) (none (strings_of t) H i))
      ∙ ap (λ s. exp_made false [] s (exp_in t e) empty) (stood H.types)

  module _ (new : Copier) (p : Puts t (exp_put t false e) old new) where
    whole : (H : Held) → Later (held_of new) H → seen (strings_of t) H new ≡ exp_made false [] nowhere (exp_in t e) empty
    whole H l = p.sees H l ∙ from-nothing H

    pub words-are : (H : Held) → Later (held_of new) H → map (sign_of (strings_of t) H) (reverse new.words.items) ≡ spell (copies (exp_in t e)) []
    words-are H l = ap (λ (n : Seen). n.signs) (whole H l)

    pub compared-are : (H : Held) → Later (held_of new) H → map (type_at H.types) (reverse new.compared.items) ≡ compared (copies (exp_in t e))
    compared-are H l = ap (λ (n : Seen). n.compared) (whole H l) ∙ append-nil (compared (copies (exp_in t e)))

    pub nodes-are : Later (held_of new) (held_of new) → new.nodes ≡ weight (copies (exp_in t e))
    nodes-are l = let h : new.nodes ≡ 0 + weight (copies (exp_in t e)) = ap (λ (n : Seen). n.nodes) (whole (held_of new) l) in omega (arith, h)

  pub past-limit : Passes t (exp_put t false e) old → greatest_expansion < weight (copies (exp_in t e))
  past-limit p =
      let h : (exp_put t false e p.tables (groups_in p.tables old.own) (standing p.tables.types old.slots) (seen (strings_of t) p.tables old)).nodes ≡ 0 + weight (copies (exp_in t e)) =
      ap (λ (n : Seen). n.nodes) (from-nothing p.tables) in
      let q = p.past in
      omega (arith, h, q)
