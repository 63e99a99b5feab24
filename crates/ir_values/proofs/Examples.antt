-- Values by computation.
use Rattle.std.proofs.Common.{◌≡◌, ℕ, true, false, [], ◌∷◌, Some, None, nat_eq, pos, refl}
use Rattle.std.specs.Prelude.{if◌then◌else◌}
use Rattle.mlc_runs.specs.Run.{World, Answer, gives, raises, stops, went_wrong, out_of_turns, start}
use Rattle.mlc_runs.specs.of_mlc_names.declared.label.Label.TheVariants.{Number}
use Rattle.mlc_base.specs.declared.place.Place.{Place}
use Rattle.mlc_prims.specs.LitOf.{int, word, string}
use Rattle.mlc_prims.specs.declared.basis.BasisPrimitive.TheVariants.{Add, Divide, Less, Equals, Assign, SizeOf, Print}
use Rattle.ir_values.specs.Tags.{Tagging, untagged}
use Rattle.ir_values.specs.Values.{Value, literal, record_of, con, con_of, exn, exn_of, ref, address, cell, primitive, closure, no_fields, field, Env, empty, bind, true_number, false_number}
use Rattle.ir_values.specs.Match.{Matched, matches, no_match, mismatch, against_literal, under_exn, under_con, under_record, under_ref}
use Rattle.ir_values.specs.Equality.{same_at}
use Rattle.ir_values.specs.Primitives.{perform, enter, raise_value}

-- numbers are variables and types of constructions
abbrev V : Type 0
V = Value ℕ ℕ (untagged.Tag)

abbrev world : World V
world = record (start 1) { store = cell tt (literal (int (pos 5))) ∷ [] }

abbrev place : Place
place = record { file = 0; byte = 7 }

abbrev five : V
five = literal (int (pos 5))

abbrev six : V
six = literal (int (pos 6))

abbrev two : V → V → V
two v u = record_of tt (field (Number 1) v (field (Number 2) u no_fields))

-- Equality: constructions and records by their parts, references by identity; functions, packets and values of different kinds have none.

parts-are-compared : same_at untagged {B = ℕ} {C = ℕ} tt (con_of tt 9 (two five six)) (con_of tt 9 (two five six)) ≡ Some true
parts-are-compared = refl

a-difference-decides : same_at untagged {B = ℕ} {C = ℕ} tt (two five six) (two six six) ≡ Some false
a-difference-decides = refl

all-parts-are-compared : same_at untagged {B = ℕ} {C = ℕ} tt (two five (closure 0 empty)) (two six (closure 0 empty)) ≡ None
all-parts-are-compared = refl

in-any-order : same_at untagged {B = ℕ} {C = ℕ} tt (two (closure 0 empty) five) (two (closure 0 empty) six) ≡ None
in-any-order = refl

other-constructors-differ : same_at untagged {B = ℕ} {C = ℕ} tt (con_of tt 9 five) (con_of tt 8 (closure 0 empty)) ≡ Some false
other-constructors-differ = refl

fields-go-by-label : same_at untagged {B = ℕ} {C = ℕ} tt (two five six) (record_of tt (field (Number 2) six (field (Number 1) five no_fields))) ≡ Some true
fields-go-by-label = refl

references-are-themselves : same_at untagged {B = ℕ} {C = ℕ} tt (address 0) (address 1) ≡ Some false
references-are-themselves = refl

functions-have-none : same_at untagged {B = ℕ} {C = ℕ} tt (closure 0 empty) (closure 0 empty) ≡ None
functions-have-none = refl

packets-have-none : same_at untagged {B = ℕ} {C = ℕ} tt (exn tt 0) (exn tt 0) ≡ None
packets-have-none = refl

kinds-differ : same_at untagged {B = ℕ} {C = ℕ} tt five (literal (word 5)) ≡ None
kinds-differ = refl

-- Primitives.

sum : perform untagged {B = ℕ} {C = ℕ} tt Add (five ∷ six ∷ []) world ≡ gives (literal (int (pos 11))) world
sum = refl

no-sum : perform untagged {B = ℕ} {C = ℕ} tt Add (literal (int (pos 2147483647)) ∷ five ∷ []) world ≡ raises (exn tt 2) world
no-sum = refl

no-quotient : perform untagged {B = ℕ} {C = ℕ} tt Divide (five ∷ literal (int (pos 0)) ∷ []) world ≡ raises (exn tt 3) world
no-quotient = refl

less : perform untagged {B = ℕ} {C = ℕ} tt Less (five ∷ six ∷ []) world ≡ gives (con tt true_number) world
less = refl

equal : perform untagged {B = ℕ} {C = ℕ} tt Equals (con tt 4 ∷ con tt 5 ∷ []) world ≡ gives (con tt false_number) world
equal = refl

assigned : perform untagged {B = ℕ} {C = ℕ} tt Assign (address 0 ∷ six ∷ []) world ≡ gives (record_of tt no_fields) (record world { store = cell tt six ∷ [] })
assigned = refl

printed : perform untagged {B = ℕ} {C = ℕ} tt Print (literal (string (104 ∷ [])) ∷ []) world ≡ gives (record_of tt no_fields) (record world { output = 104 ∷ [] })
printed = refl

wrong-kind : perform untagged {B = ℕ} {C = ℕ} tt SizeOf (five ∷ []) world ≡ stops went_wrong world
wrong-kind = refl

-- Calls: a constructor, an exception name, `ref` and a primitive are functions; each call takes a turn.

abbrev body : ℕ → Env ℕ ℕ (untagged.Tag) → V → World V → Answer V V
body c e v w = gives v w

abbrev later : World V
later = record world { left = 0; taken = place ∷ [] }

constructed : enter untagged body place (con tt 9) five world ≡ gives (con_of tt 9 five) later
constructed = refl

a-packet : enter untagged body place (exn tt 7) five world ≡ gives (exn_of tt 7 five) later
a-packet = refl

a-reference : enter untagged body place (ref tt) six world ≡ gives (address 1) (record later { store = cell tt five ∷ cell tt six ∷ [] })
a-reference = refl

performed : enter untagged body place (primitive tt Add) (two five six) world ≡ gives (literal (int (pos 11))) later
performed = refl

entered : enter untagged body place (closure 0 empty) six world ≡ gives six later
entered = refl

no-turn : enter untagged body place (closure 0 empty) six later ≡ stops out_of_turns later
no-turn = refl

no-function : enter untagged body place five six world ≡ stops went_wrong world
no-function = refl

no-exception : raise_value five world ≡ stops went_wrong world
no-exception = refl

-- Patterns.

abbrev go : V → Matched ℕ ℕ (untagged.Tag)
go u = matches (bind 3 u empty)

other-constructor : under_con untagged tt 9 (con_of tt 8 five) go ≡ no_match
other-constructor = refl

argument-bound : under_con untagged tt 9 (con_of tt 9 five) go ≡ matches (bind 3 five empty)
argument-bound = refl

no-argument : under_con untagged {B = ℕ} {C = ℕ} tt 9 (con tt 9) go ≡ mismatch
no-argument = refl

a-constant : against_literal {B = ℕ} {C = ℕ} (int (pos 5)) six (matches empty) ≡ no_match
a-constant = refl

exceptions-go-by-name : under_exn untagged tt (Some (exn tt 7)) (exn_of tt 8 five) go ≡ no_match
exceptions-go-by-name = refl

content : under_ref untagged tt world.store (address 0) go ≡ matches (bind 3 five empty)
content = refl

too-many-fields : under_record untagged tt (Some 1) (two five six) (λ fs. matches empty) ≡ mismatch
too-many-fields = refl

further-fields : under_record untagged tt None (two five six) (λ fs. matches empty) ≡ matches empty
further-fields = refl

-- Tags: here a type is a number, 10 the type of records with a field of type 1, integers.

abbrev numbered : Tagging
numbered = record {
  Tag = ℕ;
  same = nat_eq;
  of_unit = 0;
  of_bool = 6;
  has_literal = λ t l. nat_eq t 1;
  has_references = λ t. nat_eq t 4;
  field = λ t l. if nat_eq t 10 then Some 1 else None;
  argument = λ t c. None;
}

abbrev one : Value ℕ ℕ ℕ
one = record_of 10 (field (Number 1) (literal (int (pos 5))) no_fields)

at-its-type : same_at numbered 10 one one ≡ Some true
at-its-type = refl

at-another-type : same_at numbered 11 one one ≡ None
at-another-type = refl

taken-apart-elsewhere : under_record numbered 11 None one (λ fs. matches empty) ≡ mismatch
taken-apart-elsewhere = refl

-- `+` at a type takes constants of that type; one without a choice asks nothing of it
sum-at-its-type : perform numbered {B = ℕ} {C = ℕ} 1 Add (literal (int (pos 5)) ∷ literal (int (pos 6)) ∷ []) (start 0) ≡ gives (literal (int (pos 11))) (start 0)
sum-at-its-type = refl

sum-at-another-type : perform numbered {B = ℕ} {C = ℕ} 2 Add (literal (int (pos 5)) ∷ literal (int (pos 6)) ∷ []) (start 0) ≡ stops went_wrong (start 0)
sum-at-another-type = refl

no-choice : perform numbered {B = ℕ} {C = ℕ} 2 SizeOf (literal (string []) ∷ []) (start 0) ≡ gives (literal (int (pos 0))) (start 0)
no-choice = refl

truth-is-tagged : perform numbered {B = ℕ} {C = ℕ} 1 Equals (literal (int (pos 5)) ∷ literal (int (pos 5)) ∷ []) (start 0) ≡ gives (con 6 true_number) (start 0)
truth-is-tagged = refl
