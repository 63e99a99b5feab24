use Rattle.machine_rows.proofs.AllRows.{all_right}
use Rattle.machine_rows.proofs.law.rows_are_right.Goals as goal

pub returns : goal.returns
returns c = all_right (record {
  sums = c.sums.ensures;
  word_quotients = c.word_quotients.ensures;
  int_rows = c.int_rows.ensures;
  divisions = c.divisions.ensures;
  bits = c.bits.ensures;
  conversions = c.conversions.ensures;
  limits = c.limits.ensures;
  sizes = c.sizes.ensures;
  truths = c.truths.ensures;
  contraries = c.contraries.ensures;
  comparisons = c.comparisons.ensures;
  text_orders = c.text_orders.ensures;
  text_rows = c.text_rows.ensures;
})
