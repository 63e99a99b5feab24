use Rattle.std.proofs.Common.{◌≡◌, length, ◌∙◌}
use Rattle.mlb_reader.proofs.CountLemmas.{keeps-file}
use Rattle.mlb_reader.proofs.counts.keep_file.Goals as goal

pub returns-then-fits-clause-kept : goal.returns-then-fits-clause-kept
returns-then-fits-clause-kept c =
    let within = c.fits.ensures.0 c.if-fits.true in
    let len : c.len-len.result ≡ length c.args.bytes.items = c.len-len.ensures ∙ c.args.bytes.ok.0 in
    keeps-file c.in_ok-number.number c.args.files.now c.add.new.self c.args.path.now c.args.bytes.items c.args.counts.now c.len-len.result c.requires.count c.requires.room c.in_ok-number.ensures.number len c.in_ok-number.ensures.ok within.0 within.1
