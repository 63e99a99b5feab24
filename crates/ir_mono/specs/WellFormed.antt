-- Which programs are well formed: typed, each variable bound once, and only a use and an exception's name that is brought in reach into functions around.
use Rattle.std.specs.Prelude.{◌≡◌, ℕ, false, [], length}
use Rattle.ir_poly.specs.of_ir_plain.Once.{IsOnce}
use Rattle.ir_poly.specs.of_ir_plain.Scoped.{IsLocal}
use Rattle.ir_mono.specs.Types.{IsTable}
use Rattle.ir_mono.specs.Mono.{mono, Program}
use Rattle.ir_mono.specs.Typing.{Typed}

pub record IsWellFormed (p : Program) : Type 0 where
  pub table : IsTable p.types
  pub initial : length p.initial ≡ 7
  pub type : ℕ
  -- no miss gets out
  pub typed : Typed p.types false [] p.body type
  pub once : IsOnce (λ x. x) p.body
  pub local : IsLocal (mono p.types) [] p.body
