-- A tree that is built from its words, the last one first: each word takes the parts that it needs from a stack, and puts what they make there.
use Rattle.std.specs.Prelude.{ℕ, List, [], ◌∷◌}
use Rattle.ir_plain.specs.Tree.{Atoms, no_atoms, an_atom, Row, no_row, a_row, Exp, ret, let_in, exception_in, name_in, rec_in, switch, first, miss, counted, Arms, no_arms, arm, Op, make_record, prim, fn, block, handle, Fun, last, more, Funs, no_funs, fun}
use Rattle.ir_mono.specs.Types as table
use Rattle.ir_mono.specs.Mono.{mono}
use Rattle.mono_read.specs.Words.{Sign, ret_sign, miss_sign, first_sign, counted_sign, switch_sign, arm_sign, exception_sign, name_sign, group_sign, function_sign, let_sign, op_sign, record_sign, perform_sign, fn_sign, parameter_sign, last_sign, block_sign, handle_sign, packet_sign, field_sign, argument_sign, end_sign}

-- the variables and types of a group's functions
pub data Heads : Type 0 where
  no_heads : Heads
  head : (variable type : ℕ) → Heads → Heads

module _ (types : List table.Row) where
  pub data Item : Type 0 where
    an_exp : Exp (mono types) → Item
    a_binding : (variable type : ℕ) → Item
    a_fun : Fun (mono types) → Item
    -- the variable of a packet, and the handler
    a_handler : ℕ → Exp (mono types) → Item
    some_arms : Arms (mono types) → Item
    some_row : Row (mono types) → Item
    some_atoms : Atoms (mono types) → Item
    some_heads : Heads → Item
    -- no arms, fields, atoms or heads
    an_end : Item

  abbrev pub Stack : Type 0
  Stack = List Item

module _ {types : List table.Row} where
  -- What stands on top is taken; nothing is left where it is something else.

  abbrev pub with_exp : Stack types → (Exp (mono types) → Stack types → Stack types) → Stack types
  with_exp (an_exp e ∷ st) f = f e st
  with_exp _ f = []

  abbrev pub with_binding : Stack types → (ℕ → ℕ → Stack types → Stack types) → Stack types
  with_binding (a_binding x t ∷ st) f = f x t st
  with_binding _ f = []

  abbrev pub with_fun : Stack types → (Fun (mono types) → Stack types → Stack types) → Stack types
  with_fun (a_fun g ∷ st) f = f g st
  with_fun _ f = []

  abbrev pub with_handler : Stack types → (ℕ → Exp (mono types) → Stack types → Stack types) → Stack types
  with_handler (a_handler x d ∷ st) f = f x d st
  with_handler _ f = []

  abbrev pub with_arms : Stack types → (Arms (mono types) → Stack types → Stack types) → Stack types
  with_arms (some_arms arms ∷ st) f = f arms st
  with_arms (an_end ∷ st) f = f no_arms st
  with_arms _ f = []

  abbrev pub with_row : Stack types → (Row (mono types) → Stack types → Stack types) → Stack types
  with_row (some_row row ∷ st) f = f row st
  with_row (an_end ∷ st) f = f no_row st
  with_row _ f = []

  abbrev pub with_atoms : Stack types → (Atoms (mono types) → Stack types → Stack types) → Stack types
  with_atoms (some_atoms as_ ∷ st) f = f as_ st
  with_atoms (an_end ∷ st) f = f no_atoms st
  with_atoms _ f = []

  abbrev pub with_heads : Stack types → (Heads → Stack types → Stack types) → Stack types
  with_heads (some_heads hs ∷ st) f = f hs st
  with_heads (an_end ∷ st) f = f no_heads st
  with_heads _ f = []

  -- a step in front of the expression on top
  abbrev pub stepped : (Exp (mono types) → Exp (mono types)) → Stack types → Stack types
  stepped g st = with_exp st (λ e rest. an_exp (g e) ∷ rest)

  -- an operation, whose binding is on top
  abbrev pub acted : Op (mono types) → Stack types → Stack types
  acted o st = with_binding st (λ x t rest. stepped (let_in x tt t o) rest)

  -- the functions of a group, one for each head
  abbrev pub with_funs : Heads → Stack types → (Funs (mono types) → Stack types → Stack types) → Stack types
  with_funs no_heads st f = f no_funs st
  with_funs (head x t hs) st f = with_fun st (λ g rest. with_funs hs rest (λ gs more_rest. f (fun x t g gs) more_rest))

  abbrev pub put : Sign types → Stack types → Stack types
  put (ret_sign k) st = an_exp (ret k) ∷ st
  put miss_sign st = an_exp miss ∷ st
  put first_sign st = with_exp st (λ e rest. stepped (first e) rest)
  put (counted_sign n) st = stepped (counted n) st
  put (switch_sign k t) st = with_arms st (λ arms rest. an_exp (switch k t arms) ∷ rest)
  put (arm_sign c) st = with_exp st (λ e rest. with_arms rest (λ arms more_rest. some_arms (arm c e arms) ∷ more_rest))
  put (exception_sign x i t) st = stepped (exception_in x i t) st
  put (name_sign x y) st = stepped (name_in x y) st
  put group_sign st = with_heads st (λ hs rest. with_funs hs rest (λ gs more_rest. stepped (rec_in tt gs) more_rest))
  put (function_sign x t) st = with_heads st (λ hs rest. some_heads (head x t hs) ∷ rest)
  put (let_sign x t) st = a_binding x t ∷ st
  put (op_sign o) st = acted o st
  put (record_sign t) st = with_row st (λ row rest. acted (make_record t row) rest)
  put (perform_sign m p t) st = with_atoms st (λ as_ rest. acted (prim m p t as_) rest)
  put fn_sign st = with_fun st (λ g rest. acted (fn g) rest)
  put (parameter_sign x t) st = with_fun st (λ g rest. a_fun (more x t g) ∷ rest)
  put (last_sign x t) st = with_exp st (λ e rest. a_fun (last x t e) ∷ rest)
  put block_sign st = with_exp st (λ e rest. acted (block e) rest)
  put handle_sign st = with_exp st (λ e rest. with_handler rest (λ x d more_rest. acted (handle e x d) more_rest))
  put (packet_sign x) st = with_exp st (λ d rest. a_handler x d ∷ rest)
  put (field_sign l k) st = with_row st (λ row rest. some_row (a_row l k row) ∷ rest)
  put (argument_sign k) st = with_atoms st (λ as_ rest. some_atoms (an_atom k as_) ∷ rest)
  put end_sign st = an_end ∷ st

  abbrev pub build : List (Sign types) → Stack types
  build [] = []
  build (w ∷ ws) = put w (build ws)
