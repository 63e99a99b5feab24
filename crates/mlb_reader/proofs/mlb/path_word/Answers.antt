use Rattle.std.proofs.Common.{◌≡◌, take, ap, subst, sym, ◌∙◌, true}
use Rattle.std.specs.List.{prefix_len}
use Rattle.mlb_reader.specs.Mlb.{IsPath}
use Rattle.mlb_reader.specs.Reading.{is_no_blank}
use Rattle.mlb_reader.proofs.MlbLemmas.{begins-is-front, front-begins}
use Rattle.mlb_reader.proofs.mlb.path_word.Goals as goal

pub returns-then-is_path-clause-found : goal.returns-then-is_path-clause-found
returns-then-is_path-clause-found c =
    let front : take c.word_len.result c.args.text.now ≡ take (prefix_len is_no_blank c.args.text.now) c.args.text.now = ap (λ n. take n c.args.text.now) c.word_len.ensures.longest in
    front-begins c.args.text.now (take c.word_len.result c.args.text.now) front (c.is_path.ensures.0 c.if-is_path.true)

pub returns-else-is_path-clause-none : goal.returns-else-is_path-clause-none
returns-else-is_path-clause-none c = λ word h.
    let is : word ≡ take c.word_len.result c.args.text.now = begins-is-front c.args.text.now word h ∙ ap (λ n. take n c.args.text.now) (sym c.word_len.ensures.longest) in
    let yes : c.is_path.result ≡ true = c.is_path.ensures.1 (subst IsPath is h.is) in
    let no = c.if-is_path.false in
    absurd (cc)
