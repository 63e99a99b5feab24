-- What a call that copies does to what is seen.
use Rattle.std.specs.Prelude.{◌≡◌, ◌<◌, ℕ}
use Rattle.mlc_runs.specs.Passes.{greatest_expansion}
use Rattle.ty_core.specs.Types.{Typ}
use Rattle.ir_tables.specs.Tables.{strings_of}
use Rattle.ir_tables.specs.declared.tables.Tables.{Tables}
use Rattle.monomorphise.specs.Monomorphise.{Groups}
use Rattle.mono_close.specs.Closing.{standing}
use Rattle.mono_words.specs.Seen.{Seen}
use Rattle.mono_parts.specs.of_mono_state.Seen.{Held, held_of, Later, groups_in, seen}
use Rattle.mono_parts.specs.of_mono_state.Going.{IsOpen, IsRight, Goes}
use Rattle.mono_parts.specs.of_mono_state.declared.copier.Copier.{Copier}

-- what is seen then, by the tables, the groups around, what variables stand for, and what was seen before
abbrev pub Change : Type 0
Change = Held → Groups → (ℕ → Typ) → Seen → Seen

-- a walk that can go on along a program with these tables
pub record IsReady (t : Tables) (c : Copier) : Type 0 where
  pub open_ : IsOpen c
  pub right : IsRight t.types c

-- it goes on, and sees what F says
pub record Puts (t : Tables) (F : Change) (old new : Copier) : Type 0 where
  pub goes : Goes t.types old new
  pub sees : (H : Held) → Later (held_of new) H
      → seen (strings_of t) H new ≡ F H (groups_in H old.own) (standing H.types old.slots) (seen (strings_of t) H old)

-- there are more nodes than may be, where it sees what F says
pub record Passes (t : Tables) (F : Change) (old : Copier) : Type 0 where
  pub tables : Held
  pub later : Later (held_of old) tables
  pub past : greatest_expansion < (F tables (groups_in tables old.own) (standing tables.types old.slots) (seen (strings_of t) tables old)).nodes
