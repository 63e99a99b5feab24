-- Two passes, one after the other.
use Rattle.std.proofs.Common.{ℕ, inl, inr, List, ◌++◌, Contains}
use Rattle.std.proofs.lemmas.List.Elements.{All-contains, All-weaker, Contains-append_cases, Contains-append_right}
use Rattle.mlc_runs.specs.Passes.{initial_exceptions, BringsNone}

still-known : (given mid : List ℕ) → BringsNone given mid → (x : ℕ) → Contains (mid ++ initial_exceptions) x → Contains (given ++ initial_exceptions) x
still-known given mid h x there =
    elim (Contains-append_cases mid initial_exceptions x there) [
      | inl k ↦ All-contains (Contains (given ++ initial_exceptions)) mid x h k
      | inr k ↦ Contains-append_right given initial_exceptions x k
    ]

pub brings-none : (given mid made : List ℕ) → BringsNone given mid → BringsNone mid made → BringsNone given made
brings-none given mid made h k = All-weaker (Contains (mid ++ initial_exceptions)) (Contains (given ++ initial_exceptions)) (still-known given mid h) made k
