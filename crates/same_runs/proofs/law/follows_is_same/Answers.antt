use Rattle.same_runs.proofs.FollowsLemmas.{same_runs}
use Rattle.same_runs.proofs.law.follows_is_same.Goals as goal

pub returns : goal.returns
returns c = λ text_of means program heap stack right f.
    same_runs text_of means _ right (λ n m. c.results.ensures.end_stays program heap stack n m) (λ n m. c.results.ensures.output_grows program heap stack n m) f
