-- Words of copies, gone along in the order of the text: each name is given its number, and each type that of its place in a table. What is around is a stack:
-- what comes behind the part that is gone along, and the numbers that are given there.
use Rattle.std.specs.Prelude.{ℕ, zero, suc, ◌+◌, List, [], ◌∷◌}
use Rattle.ty_core.specs.Types.{Typ}
use Rattle.ir_mono.specs.Types as table
use Rattle.monomorphise.specs.Monomorphise.{Name}
use Rattle.monomorphise.specs.Number.{Given, none_given, given, number_of, case_given, case_next, number_name, number_argument, number_case, number_op}
use Rattle.mono_read.specs.of_mono_words.Words as named
use Rattle.mono_read.specs.of_mono_words.Words.{ret_sign, miss_sign, first_sign, counted_sign, switch_sign, arm_sign, exception_sign, name_sign, group_sign, function_sign, let_sign, op_sign, record_sign, perform_sign, fn_sign, parameter_sign, last_sign, block_sign, handle_sign, packet_sign, field_sign, argument_sign, end_sign}
use Rattle.mono_read.specs.Words as made

pub data Frame : Type 0 where
  -- behind an attempt, what comes where it misses
  in_attempt : Given → Frame
  in_arms : Given → Frame
  -- behind an operation, the binding of its value
  in_let : Name → Typ → Given → Frame
  -- behind what is handled, the handler
  in_handled : Given → Frame
  -- functions of a group: how many, and how many of these are still to come
  in_heads : (functions left : ℕ) → Frame
  -- behind a function of a group, so many others
  in_bodies : ℕ → Given → Frame

-- the numbers that are given, the next one, and what is around
pub record Standing : Type 0 where
  pub numbers : Given
  pub next : ℕ
  pub frames : List Frame

abbrev pub at : Given → ℕ → List Frame → Standing
at g b fr = record { numbers = g; next = b; frames = fr }

-- the functions of a group, whose words follow: how many, and the numbers that are given with them, the first one last

abbrev pub head_count : List named.Sign → ℕ
head_count (function_sign k t ∷ ws) = suc (head_count ws)
head_count _ = 0

abbrev pub heads_given : ℕ → List named.Sign → Given → Given
heads_given b (function_sign k t ∷ ws) g = given k (b + head_count ws) (heads_given b ws g)
heads_given b _ g = g

module _ (types : List table.Row) (index : Typ → ℕ) where
  abbrev pub Made : Type 0
  Made = List (made.Sign types)

  -- behind the last of a group's functions
  abbrev pub bodies_left : ℕ → Given → List Frame → List Frame
  bodies_left zero g fr = fr
  bodies_left (suc n) g fr = in_bodies n g ∷ fr

  -- an expression or an operation ends
  abbrev pub ended : ℕ → List Frame → (Standing → Made) → Made
  ended b (in_attempt g ∷ fr) go = go (at g b fr)
  ended b (in_arms g ∷ fr) go = go (at g b (in_arms g ∷ fr))
  ended b (in_let k t g ∷ fr) go = made.let_sign b (index t) ∷ go (at (given k b g) (suc b) fr)
  ended b (in_handled g ∷ fr) go = go (at g b fr)
  ended b (in_bodies n g ∷ fr) go = go (at g b (bodies_left n g fr))
  ended b (in_heads n m ∷ fr) go = go (at none_given b fr)
  ended b [] go = go (at none_given b [])

  -- a list ends: arms, functions of a group, fields or atoms of an operation
  abbrev pub closed : Given → ℕ → List Frame → (Standing → Made) → Made
  closed g b (in_arms h ∷ fr) go = ended b fr go
  closed g b (in_heads n m ∷ fr) go = go (at g (b + n) (bodies_left n g fr))
  closed g b (in_let k t h ∷ fr) go = ended b (in_let k t h ∷ fr) go
  closed g b fr go = go (at g b fr)

  -- a function of a group, of which others follow
  abbrev pub headed : Typ → Given → ℕ → List Frame → (Standing → Made) → Made
  headed t g b (in_heads n (suc m) ∷ fr) go = made.function_sign (b + m) (index t) ∷ go (at g b (in_heads n m ∷ fr))
  headed t g b fr go = go (at g b fr)

  -- one word, before those that follow; go has what is made of these
  abbrev pub one : named.Sign → List named.Sign → Given → ℕ → List Frame → (Standing → Made) → Made
  one (ret_sign k) ws g b fr go = made.ret_sign (number_of k g) ∷ ended b fr go
  one miss_sign ws g b fr go = made.miss_sign ∷ ended b fr go
  one first_sign ws g b fr go = made.first_sign ∷ go (at g b (in_attempt g ∷ fr))
  one (counted_sign n) ws g b fr go = made.counted_sign n ∷ go (at g b fr)
  one (switch_sign k t) ws g b fr go = made.switch_sign (number_of k g) (index t) ∷ go (at g b (in_arms g ∷ fr))
  one (arm_sign c) ws g b fr go = made.arm_sign (number_case types index g b c) ∷ go (at (case_given g b c) (case_next b c) fr)
  one (exception_sign k i t) ws g b fr go = made.exception_sign b i (number_argument types index t) ∷ go (at (given k b g) (suc b) fr)
  one (name_sign k j) ws g b fr go = made.name_sign b (number_name types index g j) ∷ go (at (given k b g) (suc b) fr)
  one group_sign ws g b fr go = made.group_sign ∷ go (at (heads_given b ws g) b (in_heads (head_count ws) (head_count ws) ∷ fr))
  one (function_sign k t) ws g b fr go = headed t g b fr go
  one (let_sign k t) ws g b fr go = go (at g b (in_let k t g ∷ fr))
  one (op_sign o) ws g b fr go = made.op_sign (number_op types index g b o) ∷ ended b fr go
  one (record_sign t) ws g b fr go = made.record_sign (index t) ∷ go (at g b fr)
  one (perform_sign m p t) ws g b fr go = made.perform_sign m p (index t) ∷ go (at g b fr)
  one fn_sign ws g b fr go = made.fn_sign ∷ go (at g b fr)
  one (parameter_sign k t) ws g b fr go = made.parameter_sign b (index t) ∷ go (at (given k b g) (suc b) fr)
  one (last_sign k t) ws g b fr go = made.last_sign b (index t) ∷ go (at (given k b g) (suc b) fr)
  one block_sign ws g b fr go = made.block_sign ∷ go (at g b fr)
  one handle_sign ws g b fr go = made.handle_sign ∷ go (at g b (in_handled g ∷ fr))
  one (packet_sign k) ws g b fr go = made.packet_sign b ∷ go (at (given k b g) (suc b) fr)
  one (field_sign l k) ws g b fr go = made.field_sign l (number_of k g) ∷ go (at g b fr)
  one (argument_sign k) ws g b fr go = made.argument_sign (number_of k g) ∷ go (at g b fr)
  one end_sign ws g b fr go = made.end_sign ∷ closed g b fr go

  abbrev pub along : List named.Sign → Standing → Made
  along [] s = []
  along (w ∷ ws) s = one w ws s.numbers s.next s.frames (along ws)
