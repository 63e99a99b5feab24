-- The facts on types, patterns, heads and bindings that expressions and declarations ask for.
use Rattle.std.proofs.Common.{ℕ, arith}
use Rattle.sml_grammar.proofs.TypeSound.{ty-sound}
use Rattle.sml_grammar.proofs.TypeFar.{ty-far}
use Rattle.sml_grammar.proofs.MaybeTypes.{colon-sound}
use Rattle.sml_grammar.proofs.PatSound.{pat-sound}
use Rattle.sml_grammar.proofs.PatFar.{pat-far}
use Rattle.sml_grammar.proofs.PatHeads.{head-sound}
use Rattle.sml_grammar.proofs.PatHeadsDeep.{head-far}
use Rattle.sml_grammar.proofs.BindTyvars.{tyvars-sound, tyvars-never-deep}
use Rattle.sml_grammar.proofs.BindTypes.{type_binds-sound, type_binds-far}
use Rattle.sml_grammar.proofs.BindDatatypes.{data_binds-sound, data_binds-far}
use Rattle.sml_grammar.proofs.BindExceptions.{ex_binds-sound, ex_binds-far}
use Rattle.sml_grammar.proofs.BindNames.{strids-sound, strids-never-deep, vids-sound, vids-never-deep}
use Rattle.sml_grammar.proofs.ExpBelow.{Below, FarBelow}

pub below : (n : ℕ) → Below n
below n = record {
  tys = λ i y h. let g = ty-sound n 0 i y (omega arith) h in record { reads = g.reads; fits = g.fits };
  maybe_tys = λ i y h. let g = colon-sound n i y h in record { reads = g.reads; fits = g.fits };
  pats = λ f i y h. let g = pat-sound n f 0 i y (omega arith) h in record { reads = g.reads; fits = g.fits };
  heads = λ f i y h. let g = head-sound n f i y h in record { reads = g.reads; fits = g.fits };
  tyvars = tyvars-sound;
  type_binds = λ i y h. let g = type_binds-sound n i y h in record { reads = g.reads; fits = g.fits };
  data_binds = λ f i y h. let g = data_binds-sound n f i y h in record { reads = g.reads; fits = g.fits };
  ex_binds = λ f i y h. let g = ex_binds-sound n f i y h in record { reads = g.reads; fits = g.fits };
  strids = strids-sound;
  vids = vids-sound;
}

pub far_below : (n : ℕ) → FarBelow n
far_below n = record {
  tys = λ i h. ty-far n 0 i (omega arith) h;
  pats = λ f i h. pat-far n f 0 i h (omega arith);
  heads = λ f i h. head-far n f i h;
  tyvars = λ i h. tyvars-never-deep i h;
  type_binds = λ i h. type_binds-far n i h;
  data_binds = λ f i h. data_binds-far n f i h;
  ex_binds = λ f i h. ex_binds-far n f i h;
  strids = λ i h. strids-never-deep i h;
  vids = λ i h. vids-never-deep i h;
}
