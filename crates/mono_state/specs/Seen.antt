-- What a walk has made, as it is read with tables that have what its own have, at the same numbers.
use Rattle.std.specs.Prelude.{◌≡◌, ◌≢◌, ℕ, List, [], map, take, length, reverse, get_or, AllPairs}
use Rattle.ty_core.specs.Types.{Typ}
use Rattle.ty_table.specs.TypeAt.{type_at}
use Rattle.ir_tables.specs.Tables.{literal_at}
use Rattle.ir_plain.specs.Tree.{use_of, const, con_alone, construct, ref_alone, refer, content, pack, select, prim_alone, app, raise, raise_initial}
use Rattle.plain_tree.specs.TreeOf.{Reading, case_of, exception_of}
use Rattle.monomorphise.specs.Monomorphise.{Name, Named, Groups}
use Rattle.mono_names.specs.Numbers.{AreOnce}
use Rattle.mono_names.specs.Named.{types_named, name_of}
use Rattle.mono_scopes.specs.Scopes.{Scope, variable, binding}
use Rattle.mono_words.specs.Seen.{Seen}
use Rattle.needed_scopes.specs.Scopes.{OpenScope, of_variable, of_binding}
use Rattle.needed_scopes.specs.Reads.{scopes_of}
use Rattle.mono_words.specs.Words.{Sign, ret_sign, miss_sign, first_sign, counted_sign, switch_sign, arm_sign, exception_sign, name_sign, group_sign, function_sign, let_sign, op_sign, record_sign, perform_sign, fn_sign, parameter_sign, last_sign, block_sign, handle_sign, packet_sign, field_sign, argument_sign, end_sign}
use Rattle.mono_state.specs.declared.word.Act.{Act}
use Rattle.mono_state.specs.declared.word.Act.TheVariants as act
use Rattle.mono_state.specs.declared.word.Word.{Word}
use Rattle.mono_state.specs.declared.word.Word.TheVariants as word
use Rattle.mono_state.specs.declared.copier.Copier.{Copier}
use Rattle.std.specs.Option.{option_map}

-- closed types, lists of their numbers, and copies: a variable and the number of a list each
pub record Held : Type 0 where
  pub types : List Typ
  pub lists : List (List ℕ)
  pub copies : List (ℕ × ℕ)

abbrev pub held_of : Copier → Held
held_of c = record { types = c.closed; lists = c.lists; copies = c.copies }

-- the second tables have all that the first ones have, at its number
pub record Longer (old new : Held) : Type 0 where
  pub types : take (length old.types) new.types ≡ old.types
  pub lists : take (length old.lists) new.lists ≡ old.lists
  pub copies : take (length old.copies) new.copies ≡ old.copies

-- so do these, where each type and each list has one number
pub record Later (old new : Held) : Type 0 where
  pub longer : Longer old new
  pub types_once : AllPairs (λ t u. t ≢ u) new.types
  pub lists_once : AreOnce new.lists

abbrev pub types_in : Held → ℕ → List Typ
types_in H k = types_named H.types (get_or H.lists k [])

-- the copy of a number
abbrev pub name_in : Held → ℕ → Name
name_in H n = name_of H.types H.lists (get_or H.copies n (0, 0))

abbrev pub copy_reading : List (List ℕ) → Held → Reading Named
copy_reading ss H = record { binder = name_in H; atom = name_in H; use_at = λ n ts. name_in H n; type = type_at H.types; parameters = λ k. tt; strings = ss }

abbrev pub sign_of_act : List (List ℕ) → Held → Act → Sign
sign_of_act ss H (act.Use n) = op_sign (use_of (name_in H n))
sign_of_act ss H (act.Constant c) = op_sign (const (literal_at ss c))
sign_of_act ss H (act.Constructor c t) = op_sign (con_alone c (type_at H.types t))
sign_of_act ss H (act.Construct m c t n) = op_sign (construct m c (type_at H.types t) (name_in H n))
sign_of_act ss H (act.Reference t) = op_sign (ref_alone (type_at H.types t))
sign_of_act ss H (act.Refer m t n) = op_sign (refer m (type_at H.types t) (name_in H n))
sign_of_act ss H (act.Content t n) = op_sign (content (type_at H.types t) (name_in H n))
sign_of_act ss H (act.Pack m t i n) = op_sign (pack m (type_at H.types t) (name_in H i) (name_in H n))
sign_of_act ss H (act.Record t) = record_sign (type_at H.types t)
sign_of_act ss H (act.Select t l n) = op_sign (select (type_at H.types t) l (name_in H n))
sign_of_act ss H (act.Primitive p t) = op_sign (prim_alone p (type_at H.types t))
sign_of_act ss H (act.Perform m p t) = perform_sign m p (type_at H.types t)
sign_of_act ss H (act.Apply place f n) = op_sign (app place (name_in H f) (name_in H n))
sign_of_act ss H (act.Raise n) = op_sign (raise (name_in H n))
sign_of_act ss H (act.RaiseInitial n) = op_sign (raise_initial n)

abbrev pub sign_of : List (List ℕ) → Held → Word → Sign
sign_of ss H (word.Ret n) = ret_sign (name_in H n)
sign_of ss H word.Miss = miss_sign
sign_of ss H word.First = first_sign
sign_of ss H (word.Counted n) = counted_sign n
sign_of ss H (word.Switch n t) = switch_sign (name_in H n) (type_at H.types t)
sign_of ss H (word.Arm c) = arm_sign (case_of (copy_reading ss H) c)
sign_of ss H (word.Exception n i t) = exception_sign (name_in H n) i (option_map (type_at H.types) t)
sign_of ss H (word.Name n y) = name_sign (name_in H n) (exception_of (copy_reading ss H) y)
sign_of ss H word.Group = group_sign
sign_of ss H (word.Function n t) = function_sign (name_in H n) (type_at H.types t)
sign_of ss H (word.Let n t) = let_sign (name_in H n) (type_at H.types t)
sign_of ss H (word.Act a) = sign_of_act ss H a
sign_of ss H word.Fn = fn_sign
sign_of ss H (word.Parameter x) = parameter_sign (name_in H x.variable) (type_at H.types x.ty)
sign_of ss H (word.Last x) = last_sign (name_in H x.variable) (type_at H.types x.ty)
sign_of ss H word.Block = block_sign
sign_of ss H word.Handle = handle_sign
sign_of ss H (word.Packet n) = packet_sign (name_in H n)
sign_of ss H (word.Field f) = field_sign f.label (name_in H f.atom)
sign_of ss H (word.Argument n) = argument_sign (name_in H n)
sign_of ss H word.End = end_sign

abbrev pub scope_at : Held → OpenScope → Scope
scope_at H (of_variable x) = variable x
scope_at H (of_binding vs u ks) = binding vs (types_in H u) (reverse (map (types_in H) ks))

-- the functions of groups around, with the types that their copy is at
abbrev pub groups_in : Held → List (ℕ × ℕ) → Groups
groups_in H = map (λ e. (e.0, types_in H e.1))

abbrev pub seen : List (List ℕ) → Held → Copier → Seen
seen ss H c = record {
  signs = map (sign_of ss H) (reverse c.words.items);
  scopes = map (scope_at H) (scopes_of c.scopes);
  compared = map (type_at H.types) (reverse c.compared.items);
  nodes = c.nodes;
}
