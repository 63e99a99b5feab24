-- Reading a source.
use Rattle.std.proofs.Common.{◌≡◌, ℕ, zero, suc, ◌<◌, ◌≤◌, inl, inr, List, [], ◌∷◌, length, map, get_or, None, Err, ap, subst, ◌∙◌, arith}
use Rattle.mlc_faults.specs.declared.fault.Fault.{Fault}
use Rattle.mlc_faults.specs.declared.refused.Refused.{Refused}
use Rattle.mlc_faults.specs.declared.refused.Refused.TheVariants as refusal
use Rattle.mlc_base.specs.declared.place.Place.{Place}
use Rattle.mlc_names.specs.StandardWords.{word_times, word_it}
use Rattle.mlc_names.specs.declared.token.Token.{Token}
use Rattle.sml_lexer.specs.Lexes.{IfFault, IsRefused, Lexed, Lexes, Rises}
use Rattle.sml_tree.specs.Fixity.{Fixity}
use Rattle.sml_tree.specs.Terminal.{terminals}
use Rattle.sml_tree.specs.TreeOf.{dec_of}
use Rattle.sml_tree.specs.declared.tree.Dec.{Dec}
use Rattle.sml_parser.specs.Core.{IsStop}
use Rattle.sml_modparse.specs.Programs.{Cause, IsProgram}
use Rattle.module_tree.specs.ModuleBare.{bare_tops}
use Rattle.module_grammar.specs.Laws.{IsTree}
use Rattle.module_code.specs.TreeOf.{top_of}
use Rattle.module_code.specs.declared.sources.Top.{Top}
use Rattle.mlb_reader.specs.Parts.{Part}
use Rattle.phrase_base.specs.Left.{left}
use Rattle.phrase_base.specs.declared.source.Source.{Source}
use Rattle.mlb_reader.specs.Broken.{IsBad, no_tokens, no_tree}
use Rattle.mlb_reader.specs.Project.{HasTokens, IsSource}
use Rattle.mlb_reader.specs.Tops.{part_of_tops}

-- a fact of the fault, where there is one
abbrev pub AtFault : Refused → (Fault → Type 0) → Type 0
AtFault e P = IfFault {T = Unit {0}} (Err e) P

module _ (names : List (List ℕ)) (file : ℕ) (bytes : List ℕ) (f : Fixity) where
  pub bad-tokens : (e : Refused) → AtFault e (λ fault. IsRefused bytes file fault) → AtFault e (λ _. (tokens : List Lexed) → Lexes bytes tokens → ⊥) → AtFault e (λ fault. IsBad names file f bytes fault)
  bad-tokens (refusal.Fault fault) h none = no_tokens h none
  bad-tokens refusal.Memory h none = tt

  module _ (tokens : List Token) (names' : List (List ℕ)) (has : HasTokens names bytes tokens names') (star : ℕ) (is : star ≡ word_times) where
    pub bad-tree : (e : Refused) (end : ℕ) → end ≡ length bytes → AtFault e (λ fault. Cause f (left (record { file = file; star = star }) tokens) fault.code) → AtFault e (λ fault. IsStop (record { file = file; star = star }) end tokens fault.place) → AtFault e (λ fault. fault.name ≡ None) → AtFault e (λ fault. IsBad names file f bytes fault)
    bad-tree (refusal.Fault fault) end at cause stop unnamed =
        no_tree tokens names' has (subst (λ s. Cause f (terminals s tokens) fault.code) is cause)
        (subst (λ n. IsStop (record { file = file; star = word_times }) n tokens fault.place) at (subst (λ s. IsStop (record { file = file; star = s }) end tokens fault.place) is stop)) unnamed
    bad-tree refusal.Memory end at cause stop unnamed = tt

    pub source-is : (it : ℕ) (tops : List (Top Dec)) (f' : Fixity) (part : Part) → it ≡ word_it → IsProgram it f (record { file = file; star = star }) tokens tops f' → part ≡ part_of_tops (map (top_of dec_of) tops) → IsSource names file f bytes part names' f'
    source-is it tops f' part named h same = record {
      tokens = tokens;
      has_tokens = has;
      tree = h.tree;
      is = subst (λ s. IsTree 400 f (terminals s tokens) h.tree) is h.is;
      bare = same ∙ ap part_of_tops h.bare ∙ ap (λ x. part_of_tops (bare_tops x file h.tree)) named;
      after = h.after;
    }

-- a token begins within the file
rises-le : (from to : ℕ) (tokens : List Token) → Rises from tokens to → from ≤ to
rises-le from to [] r = r
rises-le from to (u ∷ tokens) r = omega (arith, r.0, r.1, rises-le u.span.end to tokens r.2)

pub token-within : (from to : ℕ) (tokens : List Token) (k : ℕ) (t : Token) → Rises from tokens to → k < length tokens → t ≡ get_or tokens k t → t.span.first ≤ to
token-within from to [] k t r h e = absurd (omega arith)
token-within from to (u ∷ tokens) zero t r h e =
    let first : t.span.first ≡ u.span.first = ap (λ (x : Token). x.span.first) e in
    omega (arith, first, r.1, rises-le u.span.end to tokens r.2)
token-within from to (u ∷ tokens) (suc k) t r h e = token-within u.span.end to tokens k t r.2 (omega arith) e

stop-within : (s : Source) (end size : ℕ) (tokens : List Token) (place : Place) → end ≡ size → Rises 0 tokens size → IsStop s end tokens place → place.byte ≤ size
stop-within s end size tokens place at r stop = elim stop.byte [
  | inl e ↦ omega (arith, e, at)
  | inr b ↦ omega (arith, token-within 0 size tokens b.index b.token r b.inside b.is, b.begins)
]

pub fault-within : (s : Source) (end size : ℕ) (tokens : List Token) → end ≡ size → Rises 0 tokens size → (e : Refused) → AtFault e (λ fault. IsStop s end tokens fault.place) → AtFault e (λ fault. fault.place.byte ≤ size)
fault-within s end size tokens at r (refusal.Fault fault) stop = stop-within s end size tokens fault.place at r stop
fault-within s end size tokens at r refusal.Memory stop = tt
