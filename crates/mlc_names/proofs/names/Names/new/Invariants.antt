use Rattle.std.proofs.Common.{◌≡◌, [], map, take}
use Rattle.mlc_names.specs.Names.{with_texts}
use Rattle.mlc_names.proofs.names.Names.new.Given as goal

abbrev pub invariant-loop-word : goal.invariant-loop-word
invariant-loop-word l = l.names ≡ with_texts [] (map (λ w. w.now) (take l.word-index l.word-items))
