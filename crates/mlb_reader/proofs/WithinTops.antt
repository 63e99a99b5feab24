-- Places and names of what stands at a source's top.
use Rattle.std.proofs.Common.{ℕ, List, ◌∷◌, Bool, true, false, if◌then◌else◌, Option, Some, None, IfSome}
use Rattle.mlc_base.specs.declared.place.Place.{Place}
use Rattle.sml_tree.specs.Terminal.{Terminal}
use Rattle.sml_tree.specs.Fixity.{Fixity}
use Rattle.sml_tree.specs.BareTree.{Decs, Dec}
use Rattle.sml_tree.specs.Bare.{is_directive, bare_dec}
use Rattle.module_tree.specs.BareModules as bare
use Rattle.module_tree.specs.ModuleBare.{bare_str_dec, bare_it, tops_of, bare_top, bare_tops}
use Rattle.module_tree.specs.ModuleGrammar.{ReadsStrDec, of_core_dec, of_structure, of_local_str, ReadsTop, of_str_top, of_signature, of_functor, of_exp_top, ReadsTops, no_more_tops, top_semicolon, of_top}
use Rattle.module_tree.specs.ReadModules as read
use Rattle.mlb_reader.specs.Tops.{core_before, first_other, part_from, part_of_tops}
use Rattle.mlb_reader.specs.Within.{DecsIn, DecIn, PartIn}
use Rattle.mlb_reader.proofs.WithinTerminals.{AllGood}
use Rattle.mlb_reader.proofs.WithinExpressions.{dec-read, exp-good}

module _ (file : ℕ) (P : Place → Type 0) (N : ℕ → Type 0) where
  -- the core's declarations before the first other one, and its place
  record TopsGood (ts : List bare.Top) : Type 0 where
    within : DecsIn P N (core_before ts)
    other : IfSome (first_other ts) P

  module _ {it : ℕ} (named : N it) where
    dec-first : (d : Dec) (ts : List bare.Top) → DecIn P N d → TopsGood ts → TopsGood (bare.str_top (bare.core_dec d) ∷ ts)
    dec-first d ts g gs = record { within = (g, gs.within); other = gs.other }

    -- a declaration of the core, which may be a directive
    core-first : (t : Bool) (d : Dec) (ts : List bare.Top) → DecIn P N d → TopsGood ts → TopsGood (tops_of (if t then bare.no_str_decs else bare.str_dec (bare.core_dec d) bare.no_str_decs) ts)
    core-first true d ts g gs = gs
    core-first false d ts g gs = dec-first d ts g gs

    str_dec-good : {f : Fixity} {i m : List Terminal} {d : read.StrDec} → ReadsStrDec f i d m → AllGood file P N i → (ts : List bare.Top) → (AllGood file P N m → TopsGood ts) → TopsGood (tops_of (bare_str_dec file d bare.no_str_decs) ts)
    str_dec-good (of_core_dec {d = d} r) g ts go = let h = dec-read file P N r g in core-first (is_directive d) (bare_dec file d) ts h.within (go h.rest)
    str_dec-good (of_structure p r) g ts go = record { within = tt; other = g.0.0 }
    str_dec-good (of_local_str p q r a b e) g ts go = record { within = tt; other = g.0.0 }

    -- a top before others, which are good where the terminals after it are
    top-good : {f : Fixity} {fresh : Bool} {i m : List Terminal} {t : read.Top} → ReadsTop f fresh i t m → AllGood file P N i → (ts : List bare.Top) → (AllGood file P N m → TopsGood ts) → TopsGood (bare_top it file t ts)
    top-good (of_str_top r) g ts go = str_dec-good r g ts go
    top-good (of_signature p r) g ts go = record { within = tt; other = g.0.0 }
    top-good (of_functor p r) g ts go = record { within = tt; other = g.0.0 }
    top-good (of_exp_top {e = e} p r) g ts go =
        let h = exp-good file P N r g in dec-first (bare_it it file e) ts (h.place, h.place, (h.place, (h.place, named), h.within, tt), tt) (go h.rest.1)

    tops-good : {f : Fixity} {fresh : Bool} {i : List Terminal} {ts : List read.Top} → ReadsTops f fresh i ts → AllGood file P N i → TopsGood (bare_tops it file ts)
    tops-good no_more_tops g = record { within = tt; other = tt }
    tops-good (top_semicolon p r) g = tops-good r g.1
    tops-good (of_top {ts = ts} r rs) g = top-good r g (bare_tops it file ts) (λ k. tops-good rs k)

    part-in : (ds : Decs) (o : Option Place) → DecsIn P N ds → IfSome o P → PartIn P N (part_from ds o)
    part-in ds None g h = g
    part-in ds (Some p) g h = (g, h)

    pub part-good : {f : Fixity} {i : List Terminal} {ts : List read.Top} → ReadsTops f true i ts → AllGood file P N i → PartIn P N (part_of_tops (bare_tops it file ts))
    part-good {ts = ts} r g = let h = tops-good r g in part-in (core_before (bare_tops it file ts)) (first_other (bare_tops it file ts)) h.within h.other
