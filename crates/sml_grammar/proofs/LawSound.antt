-- What is read is a tree of the grammar.
use Rattle.std.proofs.Common.{◌≡◌, ℕ, List, [], ◌∷◌, subst}
use Rattle.sml_tree.specs.Terminal.{Terminal}
use Rattle.sml_tree.specs.Fixity.{Fixity}
use Rattle.sml_tree.specs.ReadTree.{Decs}
use Rattle.sml_tree.specs.Depth.{depth_decs}
use Rattle.sml_tree.specs.Grammar.{Declares}
use Rattle.sml_grammar.specs.Answer.{Read, read}
use Rattle.sml_grammar.specs.Expressions.{readers, at_end}
use Rattle.sml_grammar.specs.Laws as laws
use Rattle.sml_grammar.specs.Laws.{IsTree}
use Rattle.sml_grammar.proofs.Answers.{got, then_ok, bad_ok}
use Rattle.sml_grammar.proofs.ExpBelow.{Within}
use Rattle.sml_grammar.proofs.ExpGiven.{below}
use Rattle.sml_grammar.proofs.ExpSound.{readers-sound}

end-is : (n : ℕ) (f : Fixity) (i : List Terminal) (x : Decs) (o : List Terminal) (ds : Decs) → Within (Declares f) depth_decs n i x o → at_end x o ≡ read ds [] → IsTree n f i ds
end-is n f i x [] ds d e = subst (λ (z : Read Decs). IsTree n f i z.tree) (got e) (d.reads, d.fits)
end-is n f i x (t ∷ o) ds d e = bad_ok e

pub sound : laws.Sound
sound n f i ds h =
    let t = then_ok ((readers n).decs f i) at_end (record { tree = ds; rest = [] }) h in
    end-is n f i t.0.tree t.0.rest ds ((readers-sound below n).decs f i t.0 t.1) t.2
