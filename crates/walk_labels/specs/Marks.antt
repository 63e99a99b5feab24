-- How far a walk is, and how far it comes.
use Rattle.std.specs.Prelude.{◌≡◌, ℕ, ◌+◌, List, ◌∷◌, ◌++◌, Bool, true}
use Rattle.first_values.specs.Equality.{Shape}
use Rattle.ir_ssa.specs.Tree.{Body}
use Rattle.ssa_tree.specs.TreeOf.{StepTree, ArmTree}
use Rattle.machine_code.specs.Rows.{Rows}
use Rattle.machine_code.specs.Code.{Choice}
use Rattle.walk_labels.specs.Labels.{Frame, labelled, blocked, guarded, entered, entered_all, size_of, labels, head_size, end_size, head_sizes, end_sizes, opened, closed, ended, opened_all, closed_all, ended_all, arms_from, arms_within, arms_long, Told}

-- how much code there is, what sizes depend on, and the labels that were met
pub record Mark : Type 0 where
  pub place : ℕ
  pub frame : Frame
  pub found : List ℕ

-- in a sure walk labels have these places from a number on
abbrev pub Foretold : Bool → List ℕ → ℕ → List ℕ → Type 0
Foretold sure all n ls = sure ≡ true → Told all n ls

module _ (rows : Rows) (types : List Shape) where
  abbrev pub labels_at : Mark → Body → List ℕ
  labels_at m b = labels rows types m.place m.frame b

  -- behind a body
  abbrev pub past_body : Body → Mark → Mark
  past_body b m = record { place = m.place + size_of rows types m.frame b; frame = m.frame; found = m.found ++ labels_at m b }

  -- at the rest of a body, behind the heads of steps
  abbrev pub past_head : StepTree → Mark → Mark
  past_head g m = record { place = m.place + head_size rows types m.frame g; frame = entered m.frame g; found = m.found ++ opened rows types m.place m.frame g }

  abbrev pub past_heads : List StepTree → Mark → Mark
  past_heads gs m =
      record { place = m.place + head_sizes rows types m.frame gs; frame = entered_all m.frame gs; found = m.found ++ opened_all rows types m.place m.frame gs }

  -- behind what stands behind the rest, where the step was met at a place with these labels before and these behind
  abbrev pub past_end : (front back : List ℕ) (pc q : ℕ) → Frame → StepTree → Mark
  past_end front back pc q f g =
      record { place = q + end_size rows types f g; frame = f; found = front ++ (closed rows types q pc f g ++ (back ++ ended rows types q f g)) }

  abbrev pub past_ends : (front back : List ℕ) (pc q : ℕ) → Frame → List StepTree → Mark
  past_ends front back pc q f gs =
      record { place = q + end_sizes rows types f gs; frame = f; found = front ++ (closed_all rows types q pc f gs ++ (back ++ ended_all rows types q f gs)) }

  -- behind a body with a label whose block is behind it
  abbrev pub own_labels : Mark → Body → List ℕ
  own_labels m b = (m.place + size_of rows types (labelled m.frame) b) ∷ labels rows types m.place (labelled m.frame) b

  abbrev pub past_labelled : Body → Mark → Mark
  past_labelled b m = record { place = m.place + size_of rows types (labelled m.frame) b; frame = m.frame; found = m.found ++ own_labels m b }

  -- behind a body under a handler
  abbrev pub guarded_labels : ℕ → Mark → Body → List ℕ
  guarded_labels l m b = (m.place + 1 + size_of rows types (guarded l m.frame) b) ∷ labels rows types (m.place + 1) (guarded l m.frame) b

  abbrev pub past_guarded : ℕ → Body → Mark → Mark
  past_guarded l b m =
      record { place = m.place + 1 + size_of rows types (guarded l m.frame) b; frame = m.frame; found = m.found ++ guarded_labels l m b }

  -- behind arms
  abbrev pub past_arms : Choice → (front back : List ℕ) → List ArmTree → Mark → Mark
  past_arms how front back as_ m = record {
    place = m.place + arms_long rows types how m.frame as_;
    frame = m.frame;
    found = front ++ (arms_from rows types how m.place m.frame as_ ++ (back ++ arms_within rows types how m.place m.frame as_));
  }

  -- behind a function, whose parameters are in the next slots
  abbrev pub fun_labels : List ℕ → Body → Mark → List ℕ
  fun_labels params b m = labels rows types m.place (blocked params m.frame) b

  abbrev pub past_fun : List ℕ → Body → Mark → Mark
  past_fun params b m =
      record { place = m.place + size_of rows types (blocked params m.frame) b; frame = m.frame; found = m.found ++ fun_labels params b m }
