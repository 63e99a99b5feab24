-- All together: the sets solve, the table of captures is right, functions are numbered in the order of their codes, and the program fits.
use Rattle.std.proofs.Common.{[], refl, ◌∙◌}
use Rattle.ir_mono.specs.Mono.{Program}
use Rattle.ir_mono.specs.WellFormed.{IsWellFormed}
use Rattle.flow_sets.specs.ByType.{bound, by_type, type_at}
use Rattle.flow_sets.proofs.Member.{within-same}
use Rattle.flow_sets.proofs.Known.{once-known, by-type-solves}
use Rattle.closure_convert.specs.Capture.{table_of}
use Rattle.closure_convert.proofs.Numbered.{captures-are-right}
use Rattle.closure_meaning.proofs.Run.{conversion-same}
use Rattle.eta_expand.proofs.Formed.{expanded-well-formed, expanded-explicit}
use Rattle.eta_expand.proofs.Keeps.{expanded-same}
use Rattle.closure_whole.specs.Rising.{above, rising}
use Rattle.closure_whole.specs.Whole.{explicit}
use Rattle.closure_whole.proofs.Fresh.{fresh}
use Rattle.closure_whole.proofs.Held.{held}
use Rattle.closure_whole.specs.Converted.{numbering}
use Rattle.closure_whole.specs.Laws.{RisingSolve, ConvertedSame, WithoutFunctionsSame}
use Rattle.closure_whole.proofs.Tags.{tags-are-apart}
use Rattle.closure_whole.proofs.Rise.{rises, falls}
use Rattle.closure_whole.proofs.Transfer.{SameSets, solves-too}
use Rattle.closure_whole.proofs.Positions.{places-are}
use Rattle.closure_whole.proofs.Fitting.{program-fits}

same-sets : (p : Program) → IsWellFormed p → SameSets (by_type p) (rising p)
same-sets p w = record {
  there = λ spot. rises p.types (bound p.types p.body) (once-known p.types p.body w.once) (type_at p.types (bound p.types p.body) spot);
  back = λ spot. falls p.types (bound p.types p.body) (once-known p.types p.body w.once) (type_at p.types (bound p.types p.body) spot);
}

pub rising-solve : RisingSolve
rising-solve p w = let s = by-type-solves p w in (s.0, solves-too p.types (by_type p) (rising p) (same-sets p w) (within-same refl) p.body s.1)

pub converted-same : ConvertedSame
converted-same strings p w x h m =
    conversion-same (numbering strings (rising p) p) strings (rising p) (table_of p.types p.body) p w x (record {
      table = w.table;
      fits = program-fits strings p (rising p) (table_of p.types p.body) w.initial w (once-known p.types p.body w.once) x h;
      solves = rising-solve p w;
      closed = captures-are-right p w;
      numbered = places-are p.types p.body w.once;
      apart = tags-are-apart strings (rising p) p;
    }) m

pub explicit-well-formed : (p : Program) → IsWellFormed p → IsWellFormed (explicit p)
explicit-well-formed p w = expanded-well-formed (above (bound p.types p.body)) p w (λ k l. fresh p.types k p.body l)

pub without-functions-same : WithoutFunctionsSame
without-functions-same strings p w h m =
    converted-same strings (explicit p) (explicit-well-formed p w) (expanded-explicit (above (bound p.types p.body)) p w) (held strings p.types [] (above (bound p.types p.body)) p.body h) m
    ∙ expanded-same (above (bound p.types p.body)) p w (λ k l. fresh p.types k p.body l) m
