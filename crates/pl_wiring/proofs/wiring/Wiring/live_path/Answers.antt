use Rattle.std.proofs.Common.{◌≢◌, ap, sym, eq-eqb}
use Rattle.std.proofs.lemmas.Bool.Decides.{Decides-eqb}
use Rattle.pl_wiring.specs.LiveLinks.{IsLive}
use Rattle.pl_wiring.proofs.Climbing.{path_at, path_over}
use Rattle.pl_wiring.proofs.Ends.{same_switch}
use Rattle.pl_wiring.proofs.wiring.Wiring.live_path.Goals as goal

pub returns-then-eq-clause-found : goal.returns-then-eq-clause-found
returns-then-eq-clause-found c =
    let same = (Decides-eqb c.args.start.0 c.args.end.0).0 (sym c.if-eq.ensures) in
    rw c.at.ensures (path_at c.args.self.now.k c.args.self.now.links (IsLive c.args.links.now) c.args.start c.args.end c.requires.start c.requires.end (same_switch c.args.start c.args.end same))

pub returns-in-Some-clause-found : goal.returns-in-Some-clause-found
returns-in-Some-clause-found c =
    let apart : c.args.start ≢ c.args.end = (λ e. (let test = eq-eqb c.args.start.0 c.args.end.0 (ap (λ s. s.0) e) in cc (test, c.if-eq.ensures))) in
    rw c.over.ensures (path_over c.args.self.now (IsLive c.args.links.now) c.args.start c.in-Some.top c.args.end c.live_above_both.ensures.plan c.requires.start c.requires.end apart
    c.in-Some.ensures.found.0 c.in-Some.ensures.found.1)
