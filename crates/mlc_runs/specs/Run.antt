-- The run of a program of any form, with values of any kind V. Every meaning is written with these words.
use Rattle.std.specs.Prelude.{ℕ, zero, suc, List, [], ◌∷◌, ◌++◌, length, Option, Some, None, slice_get, nat_lt, if◌then◌else◌, slice_set}
use Rattle.mlc_runs.specs.Outcome.{End, ended, uncaught, going, wrong, Outcome}
use Rattle.mlc_base.specs.declared.place.Place.{Place}

-- what a run has done so far, and the turns that are left. A reference is a place in the store, and an exception name one among those made,
-- each with its identifier.
pub record World (V : Type 0) : Type 0 where
  pub output : List ℕ
  pub left : ℕ
  pub taken : List Place
  pub store : List V
  pub exceptions : List ℕ

-- why a run is cut short: no turn is left, or a value is of the wrong kind
pub data Cut : Type 0 where
  out_of_turns : Cut
  went_wrong : Cut

-- what a phrase gives: a result, a packet that it raises, or an end of the whole run
pub data Answer (V A : Type 0) : Type 0 where
  gives : A → World V → Answer V A
  raises : V → World V → Answer V A
  stops : Cut → World V → Answer V A

-- a run before its first turn
abbrev pub start : {V : Type 0} → ℕ → World V
start turns = record { output = []; left = turns; taken = []; store = []; exceptions = [] }

-- goes on with the result
abbrev pub then_do : {V A B : Type 0} → Answer V A → (A → World V → Answer V B) → Answer V B
then_do (gives a w) go = go a w
then_do (raises packet w) go = raises packet w
then_do (stops cut w) go = stops cut w

-- goes on with the packet
abbrev pub or_handle : {V A : Type 0} → Answer V A → (V → World V → Answer V A) → Answer V A
or_handle (gives a w) handler = gives a w
or_handle (raises packet w) handler = handler packet w
or_handle (stops cut w) handler = stops cut w

-- a value of the wrong kind
abbrev pub fail : {V A : Type 0} → World V → Answer V A
fail w = stops went_wrong w

abbrev pub turn_from : {V A : Type 0} → ℕ → Place → World V → (World V → Answer V A) → Answer V A
turn_from zero place w go = stops out_of_turns w
turn_from (suc n) place w go = go (record w { left = n; taken = w.taken ++ place ∷ [] })

-- takes a turn at this place, where one is left
abbrev pub take_turn : {V A : Type 0} → Place → World V → (World V → Answer V A) → Answer V A
take_turn place w go = turn_from w.left place w go

-- more output
abbrev pub writes : {V : Type 0} → List ℕ → World V → World V
writes bytes w = record w { output = w.output ++ bytes }

-- a new reference, which holds v
abbrev pub new_reference : {V A : Type 0} → V → World V → (ℕ → World V → Answer V A) → Answer V A
new_reference v w go = go (length w.store) (record w { store = w.store ++ v ∷ [] })

abbrev pub or_fail : {V A B : Type 0} → Option B → World V → (B → Answer V A) → Answer V A
or_fail None w go = fail w
or_fail (Some b) w go = go b

-- what a reference holds
abbrev pub dereference : {V A : Type 0} → ℕ → World V → (V → Answer V A) → Answer V A
dereference at w go = or_fail (slice_get w.store at) w go

-- the reference holds v from now on
abbrev pub assign : {V A : Type 0} → ℕ → V → World V → (World V → Answer V A) → Answer V A
assign at v w go = if nat_lt at (length w.store) then go (record w { store = slice_set w.store at v }) else fail w

-- a new exception name, with the identifier of its binding
abbrev pub new_exception : {V A : Type 0} → ℕ → World V → (ℕ → World V → Answer V A) → Answer V A
new_exception identifier w go = go (length w.exceptions) (record w { exceptions = w.exceptions ++ identifier ∷ [] })

abbrev pub uncaught_end : Option ℕ → End
uncaught_end None = wrong
uncaught_end (Some identifier) = uncaught identifier

abbrev pub cut_end : Cut → End
cut_end out_of_turns = going
cut_end went_wrong = wrong

abbrev pub ends : {V : Type 0} → World V → End → Outcome
ends w end = record { output = w.output; end = end; turns = w.taken }

-- the whole run, where identifier_of tells the identifier of a packet's exception
abbrev pub outcome_of : {V A : Type 0} → (V → World V → Option ℕ) → Answer V A → Outcome
outcome_of identifier_of (gives a w) = ends w ended
outcome_of identifier_of (raises packet w) = ends w (uncaught_end (identifier_of packet w))
outcome_of identifier_of (stops cut w) = ends w (cut_end cut)
