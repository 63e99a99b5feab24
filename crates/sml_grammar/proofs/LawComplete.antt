-- What the grammar has at most n deep is read, no terminals have two trees, what is deeper is told to be, and where bad is answered there is no tree.
use Rattle.std.proofs.Common.{◌≡◌, suc, ◌+◌, [], inl, inr, sym, ap, ◌∙◌, arith}
use Rattle.sml_tree.specs.ReadTree.{Decs}
use Rattle.sml_tree.specs.Depth.{depth_decs}
use Rattle.sml_grammar.specs.Answer.{Read, Answer, deep, read, then_read}
use Rattle.sml_grammar.specs.Expressions.{readers, at_end, read_all}
use Rattle.sml_grammar.specs.Laws as laws
use Rattle.sml_grammar.proofs.Answers.{got, le_or}
use Rattle.sml_grammar.proofs.CompQuiet.{ends-nil}
use Rattle.sml_grammar.proofs.CompPaths.{decs-opens}
use Rattle.sml_grammar.proofs.CompMain.{decs-complete}
use Rattle.sml_grammar.proofs.CompDeep.{decs-over}

pub complete : laws.Complete
complete n f i ds h =
    let a : (readers n).decs f i ≡ read ds [] = decs-complete n f i ds [] h.0 h.1 ends-nil in
    ap (λ (r : Answer Decs). then_read r at_end) a

pub one-tree : laws.OneTree
one-tree f i ds es d e =
    let n = depth_decs ds + depth_decs es in
    let a : (readers n).decs f i ≡ read ds [] = decs-complete n f i ds [] d (omega arith) ends-nil in
    let b : (readers n).decs f i ≡ read es [] = decs-complete n f i es [] e (omega arith) ends-nil in
    ap (λ (r : Read Decs). r.tree) (got (sym a ∙ b))

pub deep-complete : laws.DeepComplete
deep-complete n f i o = ap (λ (r : Answer Decs). then_read r at_end) (decs-over n f i (suc n) o (omega arith))

pub bad-sound : laws.BadSound
bad-sound n f i ds h d =
    elim (le_or (depth_decs ds) n) [
      | inl p ↦ let c : read_all n f i ≡ read ds [] = complete n f i ds (d, p) in absurd (cc)
      | inr p ↦ let c : read_all n f i ≡ deep = deep-complete n f i (decs-opens d (suc n) (omega arith) (omega arith)) in absurd (cc)
    ]
