use Rattle.forest_core.proofs.RunLemmas.{claim_grows, claims_then_wins_grow, grows_here, grows_on, run_grows, win_grows}
use Rattle.sp_ids.specs.Events.{claims_then_wins}
use Rattle.forest_core.proofs.laws.claims_and_wins_grow.Goals as goal

pub returns : goal.returns
returns c = record {
  here = grows_here;
  on = grows_on;
  claim = claim_grows;
  win = win_grows;
  runs = run_grows;
  pairs = λ s t claims wins h. run_grows s t (claims_then_wins claims wins) (claims_then_wins_grow claims wins) h;
}
