use Rattle.shop_store.proofs.Commits.{settled_leaves, left_commit_is_found, kept_commit_is_found}
use Rattle.shop_store.proofs.reopening.left_commits_are_found.Goals as goal

pub returns : goal.returns
returns g c = record {
  settled = λ at m up was. settled_leaves at m g.met.D.Disk.seen_may_stay up was;
  either = λ old last new m next clean only crash after. left_commit_is_found last new after old m next clean only crash;
  only = λ last new next clean only after. kept_commit_is_found last new after next clean only;
}
