-- What the code's words and what it builds stand for.
use Rattle.std.specs.Prelude.{◌≡◌, ℕ, List, [], ◌∷◌, map, reverse}
use Rattle.ir_tables.specs.Tables.{literal_at}
use Rattle.ir_plain.specs.Tree as t
use Rattle.ir_plain.specs.Tree.{use_of, const, con_alone, construct, ref_alone, refer, content, pack, select, prim_alone, app, raise, raise_initial}
use Rattle.ir_mono.specs.Types as table
use Rattle.ir_mono.specs.Mono.{mono, Mono}
use Rattle.plain_tree.specs.TreeOf.{StepTree, ArmTree, FunctionTree, onto, firsts, arms_of, case_of, exception_of, row_of, atoms_of, fun_of, step_of, arm_of, function_of}
use Rattle.plain_tree.specs.declared.tree.Arm.{Arm}
use Rattle.plain_tree.specs.declared.tree.Exp.{Exp}
use Rattle.plain_tree.specs.declared.tree.Function.{Function}
use Rattle.plain_tree.specs.declared.tree.Parameter.{Parameter}
use Rattle.plain_tree.specs.declared.tree.Step.{Step}
use Rattle.mono_bound.specs.Reads.{reading, mono_of}
use Rattle.mono_read.specs.Words.{Sign, ret_sign, miss_sign, first_sign, counted_sign, switch_sign, arm_sign, exception_sign, name_sign, group_sign, function_sign, let_sign, op_sign, record_sign, perform_sign, fn_sign, parameter_sign, last_sign, block_sign, handle_sign, packet_sign, field_sign, argument_sign, end_sign}
use Rattle.mono_read.specs.Building as b
use Rattle.mono_read.specs.Building.{Heads, no_heads, head, Stack, put, with_funs}
use Rattle.mono_read.specs.declared.stack.Item.{Item}
use Rattle.mono_read.specs.declared.stack.Item.TheVariants as item
use Rattle.mono_state.specs.declared.word.Act.{Act}
use Rattle.mono_state.specs.declared.word.Act.TheVariants as act
use Rattle.mono_state.specs.declared.word.Word.{Word}
use Rattle.mono_state.specs.declared.word.Word.TheVariants as word

abbrev pub Texts : Type 0
Texts = List (List ℕ)

abbrev pub heads_in : List Parameter → Heads
heads_in [] = no_heads
heads_in (x ∷ xs) = head x.variable x.ty (heads_in xs)

module _ (types : List table.Row) (strings : Texts) where
  abbrev pub sign_of_act : Act → Sign types
  sign_of_act (act.Use n) = op_sign (use_of n)
  sign_of_act (act.Constant c) = op_sign (const (literal_at strings c))
  sign_of_act (act.Constructor c t) = op_sign (con_alone c t)
  sign_of_act (act.Construct m c t n) = op_sign (construct m c t n)
  sign_of_act (act.Reference t) = op_sign (ref_alone t)
  sign_of_act (act.Refer m t n) = op_sign (refer m t n)
  sign_of_act (act.Content t n) = op_sign (content t n)
  sign_of_act (act.Pack m t i n) = op_sign (pack m t i n)
  sign_of_act (act.Record t) = record_sign t
  sign_of_act (act.Select t l n) = op_sign (select t l n)
  sign_of_act (act.Primitive p t) = op_sign (prim_alone p t)
  sign_of_act (act.Perform m p t) = perform_sign m p t
  sign_of_act (act.Apply place f n) = op_sign (app place f n)
  sign_of_act (act.Raise n) = op_sign (raise n)
  sign_of_act (act.RaiseInitial n) = op_sign (raise_initial n)

  abbrev pub sign_of : Word → Sign types
  sign_of (word.Ret n) = ret_sign n
  sign_of word.Miss = miss_sign
  sign_of word.First = first_sign
  sign_of (word.Counted n) = counted_sign n
  sign_of (word.Switch n t) = switch_sign n t
  sign_of (word.Arm c) = arm_sign (case_of (reading types strings) c)
  sign_of (word.Exception n i t) = exception_sign n i t
  sign_of (word.Name n y) = name_sign n (exception_of (reading types strings) y)
  sign_of word.Group = group_sign
  sign_of (word.Function n t) = function_sign n t
  sign_of (word.Let n t) = let_sign n t
  sign_of (word.Act a) = sign_of_act a
  sign_of word.Fn = fn_sign
  sign_of (word.Parameter x) = parameter_sign x.variable x.ty
  sign_of (word.Last x) = last_sign x.variable x.ty
  sign_of word.Block = block_sign
  sign_of word.Handle = handle_sign
  sign_of (word.Packet n) = packet_sign n
  sign_of (word.Field f) = field_sign f.label f.atom
  sign_of (word.Argument n) = argument_sign n
  sign_of word.End = end_sign

  abbrev pub signs_of : List Word → List (Sign types)
  signs_of = map sign_of

  abbrev pub step_in : Step → StepTree (mono types)
  step_in = step_of (reading types strings)

  abbrev pub arm_in : Arm → ArmTree (mono types)
  arm_in = arm_of (reading types strings)

  abbrev pub function_in : Function → FunctionTree (mono types)
  function_in = function_of (reading types strings)

  -- steps that stand from the last to the first, and what comes of them
  abbrev pub open_in : List Step → Exp → Mono types
  open_in ss e = onto (map step_in (reverse ss)) (mono_of types strings e)

  -- attempts that do, and the last of them
  abbrev pub first_in : List Exp → Exp → Mono types
  first_in es d = firsts (map (mono_of types strings) (reverse es)) (mono_of types strings d)

  abbrev pub item_in : Item → b.Item types
  item_in (item.Exp ss e) = b.an_exp (open_in ss.items e)
  item_in (item.First es d) = b.an_exp (first_in es.items d)
  item_in (item.Binding x) = b.a_binding x.variable x.ty
  item_in (item.Function ys x e) = b.a_fun (fun_of (reading types strings) (reverse ys.items) x (mono_of types strings e))
  item_in (item.Handler x d) = b.a_handler x (mono_of types strings d)
  item_in (item.Arms as_ c ss e) = b.some_arms (t.arm (case_of (reading types strings) c) (open_in ss.items e) (arms_of (map arm_in (reverse as_.items))))
  item_in (item.Fields fs) = b.some_row (row_of (reading types strings) (reverse fs.items))
  item_in (item.Atoms as_) = b.some_atoms (atoms_of (reading types strings) (reverse as_.items))
  item_in (item.Heads hs) = b.some_heads (heads_in (reverse hs.items))
  item_in item.End = b.an_end

  -- the last item stands on top
  abbrev pub stack_in : List Item → Stack types
  stack_in items = map item_in (reverse items)

-- what a word does with the stack
abbrev pub Puts : Word → (old new : List Item) → Type 0
Puts w old new = (types : List table.Row) (strings : Texts) → stack_in types strings new ≡ put (sign_of types strings w) (stack_in types strings old)

-- functions are taken, one for each head
abbrev pub Takes : (types : List table.Row) → Heads → Stack types → t.Funs (mono types) → Stack types → Type 0
Takes types hs st gs rest = (f : t.Funs (mono types) → Stack types → Stack types) → with_funs hs st f ≡ f gs rest
