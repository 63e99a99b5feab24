-- Where a walk along words stands that enters what they want, and how it moves on.
use Rattle.std.specs.Prelude.{◌≡◌, ℕ, true, false, List, [], ◌∷◌, map, reverse, Option, Some, None}
use Rattle.std.specs.Option.{option_map}
use Rattle.ty_core.specs.Types.{Typ}
use Rattle.ir_plain.specs.Tree.{Case}
use Rattle.monomorphise.specs.Monomorphise.{Named}
use Rattle.monomorphise.specs.Table.{Wanted, a_type, case_wanted}
use Rattle.ty_table.specs.TypeAt.{type_at}
use Rattle.mono_words.specs.Words.{Sign}
use Rattle.mono_state.specs.Seen.{Held, sign_of}
use Rattle.mono_state.specs.declared.word.Act.{Act}
use Rattle.mono_state.specs.declared.word.Act.TheVariants as act
use Rattle.mono_state.specs.declared.word.Word.{Word}
use Rattle.mono_state.specs.declared.word.Word.TheVariants as word
use Rattle.mono_enter.specs.Scanning.{Around, around, heads_before, tail, bodies_after, then_around}
use Rattle.mono_enter.specs.declared.steps.Turn.{Turn}
use Rattle.mono_enter.specs.declared.steps.Turn.TheVariants as turn
use Rattle.mono_enter.specs.declared.walk.Stand.{Stand}

-- with these types, whatever lists and copies are named
abbrev pub held : List Typ → List (List ℕ) → List (ℕ × ℕ) → Held
held closed lists copies = record { types = closed; lists = lists; copies = copies }

abbrev pub around_in : List Typ → Stand → Around
around_in closed s = around (map (option_map (type_at closed)) (reverse s.lists.items)) (map (type_at closed) (reverse s.functions.items)) s.begun

-- what an arm wants, where its switch's type is this
abbrev pub arm_if : List Typ → Option ℕ → Case Named → List Wanted
arm_if closed None c = []
arm_if closed (Some u) c = case_wanted (type_at closed u) c

-- a type that may be wanted
abbrev pub type_if : List Typ → Option ℕ → List Wanted
type_if closed None = []
type_if closed (Some t) = a_type (type_at closed t) ∷ []

abbrev pub Texts : Type 0
Texts = List (List ℕ)

-- a walk that comes behind a word, where ws follow it
abbrev pub turned : List Typ → Turn → List Sign → Around → Around
turned closed (turn.Into t) ws a = around (option_map (type_at closed) t ∷ a.lists) a.functions false
turned closed turn.Group ws a = around (None ∷ a.lists) (heads_before ws a.functions) false
turned closed turn.Out ws a = around (tail a.lists) a.functions false
turned closed turn.Function ws a = around a.lists a.functions true
turned closed (turn.Body others) ws a = around a.lists (bodies_after a.begun a.functions) others
turned closed turn.On ws a = around a.lists a.functions false

abbrev pub turn_of_act : Act → Turn
turn_of_act (act.Record t) = turn.Into None
turn_of_act (act.Perform m p t) = turn.Into None
turn_of_act a = turn.On

abbrev pub turn_of : Word → Turn
turn_of (word.Switch n t) = turn.Into (Some t)
turn_of word.Group = turn.Group
turn_of (word.Act a) = turn_of_act a
turn_of word.Fn = turn.Function
turn_of (word.Parameter x) = turn.Body true
turn_of (word.Last x) = turn.Body false
turn_of word.End = turn.Out
turn_of w = turn.On

-- no function comes first
abbrev pub HaveNoHeads : List Word → Type 0
HaveNoHeads ws = (strings : Texts) (H : Held) (p : List Typ) → heads_before (map (sign_of strings H) ws) p ≡ p

-- the types of the functions that come first are put in front
pub record HeadsPushed (ws : List Word) (old new : Stand) : Type 0 where
  pub lists : new.lists ≡ old.lists
  pub functions : (strings : Texts) (H : Held)
      → map (type_at H.types) (reverse new.functions.items) ≡ heads_before (map (sign_of strings H) ws) (map (type_at H.types) (reverse old.functions.items))

-- the walk moves on as t says, where the words ws follow
abbrev pub Turns : Turn → List Word → Stand → Stand → Type 0
Turns t ws old new =
    (strings : Texts) (H : Held) → around_in H.types new ≡ turned H.types t (map (sign_of strings H) ws) (around_in H.types old)

-- the walk moves on behind a word, where the words ws follow
abbrev pub MovesOn : Word → List Word → Stand → Stand → Type 0
MovesOn w ws old new =
    (strings : Texts) (H : Held) → around_in H.types new ≡ then_around (sign_of strings H w) (map (sign_of strings H) ws) (around_in H.types old)
