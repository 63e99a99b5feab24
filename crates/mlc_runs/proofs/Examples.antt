-- Worked examples of the run algebra, at its edges: values are numbers.
use Rattle.std.proofs.Common.{◌≡◌, ℕ, ◌+◌, List, [], ◌∷◌, Option, Some, None, slice_get, codes, refl}
use Rattle.mlc_base.specs.declared.place.Place.{Place}
use Rattle.mlc_runs.specs.Outcome.{ended, uncaught, going, wrong}
use Rattle.mlc_runs.specs.Run.{World, out_of_turns, went_wrong, Answer, gives, raises, stops, start, then_do, or_handle, fail, take_turn, writes, new_reference, dereference, assign, new_exception, uncaught_end, cut_end, outcome_of}

abbrev at : ℕ → Place
at byte = record { file = 1; byte = byte }

-- something is written, one turn is left, and there are two references and an exception
abbrev w : World ℕ
w = record { output = codes "a"; left = 1; taken = at 3 ∷ []; store = 7 ∷ 8 ∷ []; exceptions = 20 ∷ [] }

abbrev with_store : List ℕ → World ℕ
with_store store = record w { store = store }

-- A result goes on, a packet and a stop don't.

abbrev next : ℕ → World ℕ → Answer ℕ ℕ
next a u = gives (a + 1) (writes (codes "b") u)

abbrev written : World ℕ
written = record { output = codes "ab"; left = 1; taken = at 3 ∷ []; store = 7 ∷ 8 ∷ []; exceptions = 20 ∷ [] }

result_goes_on : then_do (gives 4 w) next ≡ gives 5 written
result_goes_on = refl

packet_passes_by : then_do (raises 4 w) next ≡ raises 4 w
packet_passes_by = refl

stop_passes_by : then_do (stops out_of_turns w) next ≡ stops out_of_turns w
stop_passes_by = refl

-- A packet is handled, a result and a stop aren't.

packet_is_handled : or_handle (raises 4 w) next ≡ gives 5 written
packet_is_handled = refl

result_is_not_handled : or_handle (gives 4 w) next ≡ gives 4 w
result_is_not_handled = refl

wrong_is_not_handled : or_handle (stops went_wrong w) next ≡ stops went_wrong w
wrong_is_not_handled = refl

exhaustion_is_not_handled : or_handle (stops out_of_turns w) next ≡ stops out_of_turns w
exhaustion_is_not_handled = refl

-- Turns: the last one is taken, and then none is left.

last_turn : take_turn {A = ℕ} (at 9) w (gives 0) ≡ gives 0 (record { output = codes "a"; left = 0; taken = at 3 ∷ at 9 ∷ []; store = 7 ∷ 8 ∷ []; exceptions = 20 ∷ [] })
last_turn = refl

no_turn : take_turn {A = ℕ} (at 9) (record w { left = 0 }) (gives 0) ≡ stops out_of_turns (record w { left = 0 })
no_turn = refl

-- References: each new one is the next place, and only places that are there are read and set.

first_reference : new_reference 9 (with_store []) gives ≡ gives 0 (with_store (9 ∷ []))
first_reference = refl

next_reference : new_reference 9 w gives ≡ gives 2 (with_store (7 ∷ 8 ∷ 9 ∷ []))
next_reference = refl

last_place : dereference 1 w (λ v. gives v w) ≡ gives 8 w
last_place = refl

no_place : dereference 2 w (λ v. gives v w) ≡ stops went_wrong w
no_place = refl

first_is_set : assign {A = ℕ} 0 9 w (gives 5) ≡ gives 5 (with_store (9 ∷ 8 ∷ []))
first_is_set = refl

last_is_set : assign {A = ℕ} 1 9 w (gives 5) ≡ gives 5 (with_store (7 ∷ 9 ∷ []))
last_is_set = refl

nothing_to_set : assign {A = ℕ} 2 9 w (gives 5) ≡ stops went_wrong w
nothing_to_set = refl

-- Exceptions: each new name is the next one, and keeps its identifier.

first_exception : new_exception 21 (record w { exceptions = [] }) gives ≡ gives 0 (record w { exceptions = 21 ∷ [] })
first_exception = refl

next_exception : new_exception 20 w gives ≡ gives 1 (record w { exceptions = 20 ∷ 20 ∷ [] })
next_exception = refl

-- Ends.

uncaught_exception : uncaught_end (Some 20) ≡ uncaught 20
uncaught_exception = refl

uncaught_other : uncaught_end None ≡ wrong
uncaught_other = refl

cut_short : cut_end out_of_turns ≡ going
cut_short = refl

cut_wrong : cut_end went_wrong ≡ wrong
cut_wrong = refl

abbrev identifier_of : ℕ → World ℕ → Option ℕ
identifier_of packet u = slice_get u.exceptions packet

result_ends : outcome_of {A = ℕ} identifier_of (gives 5 w) ≡ record { output = codes "a"; end = ended; turns = at 3 ∷ [] }
result_ends = refl

packet_ends : outcome_of {A = ℕ} identifier_of (raises 0 w) ≡ record { output = codes "a"; end = uncaught 20; turns = at 3 ∷ [] }
packet_ends = refl

no_packet_ends : outcome_of {A = ℕ} identifier_of (raises 1 w) ≡ record { output = codes "a"; end = wrong; turns = at 3 ∷ [] }
no_packet_ends = refl

cut_ends : outcome_of {A = ℕ} identifier_of (stops out_of_turns w) ≡ record { output = codes "a"; end = going; turns = at 3 ∷ [] }
cut_ends = refl

failure_ends : outcome_of {A = ℕ} identifier_of (fail w) ≡ record { output = codes "a"; end = wrong; turns = at 3 ∷ [] }
failure_ends = refl

nothing_done : outcome_of {A = ℕ} identifier_of (gives 5 (start 3)) ≡ record { output = []; end = ended; turns = [] }
nothing_done = refl
