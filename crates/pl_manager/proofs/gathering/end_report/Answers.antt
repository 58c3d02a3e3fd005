use Rattle.std.proofs.Common.{◌≡◌, ◌∙◌, [], List, map, true, false, ap, subst, sym}
use Rattle.pl_gathering.specs.Gathering.{is_whole, with_ended}
use Rattle.pl_gatherer.specs.Gatherers.{Gathering, ends_now, heard_of}
use Rattle.pl_gatherer.specs.declared.kept.Kept.{Kept}
use Rattle.pl_manager.specs.Manager.{CanTreat}
use Rattle.pl_manager.proofs.Gathers.{end_last_ok, end_missing, end_void, with_end}
use Rattle.pl_manager.proofs.Pods.{can_hear_kept}
use Rattle.pl_manager.proofs.gathering.end_report.Goals as goal

pub hear_all-requires : goal.hear_all-requires
hear_all-requires c =
    let g : Gathering = c.args.gatherer.now in
    let ends : ends_now g c.args.switch c.args.epoch ≡ true = sym c.in_ok-ends.ensures.told ∙ c.if-not-ends.false in
    let same : c.end.new.self ≡ with_ended c.args.switch g = with_end g c.end.new.self c.args.switch c.args.epoch true c.in_ok-ends.ensures.ended ends in
    subst (CanTreat c.args.known.now) (sym (ap (λ (ks : List Kept). map heard_of ks) c.deref.ensures.value ∙ c.take_kept-kept.ensures.all ∙ ap (λ (x : Gathering). x.kept) same)) (can_hear_kept c.args.known.now g c.args.switch c.requires)

pub returns-then-not-ends-clause-ended : goal.returns-then-not-ends-clause-ended
returns-then-not-ends-clause-ended c =
    let g : Gathering = c.args.gatherer.now in
    let void : ends_now g c.args.switch c.args.epoch ≡ false = sym c.in_ok-ends.ensures.told ∙ c.if-not-ends.true in
    end_void c.args.known.now g c.args.switch c.requires.many c.args.epoch c.end.new.self c.args.out.now void
    (with_end g c.end.new.self c.args.switch c.args.epoch false c.in_ok-ends.ensures.ended void)

pub returns-then-not-is_whole-clause-ended : goal.returns-then-not-is_whole-clause-ended
returns-then-not-is_whole-clause-ended c =
    let g : Gathering = c.args.gatherer.now in
    let ends : ends_now g c.args.switch c.args.epoch ≡ true = sym c.in_ok-ends.ensures.told ∙ c.if-not-ends.false in
    let same : c.end.new.self ≡ with_ended c.args.switch g = with_end g c.end.new.self c.args.switch c.args.epoch true c.in_ok-ends.ensures.ended ends in
    end_missing c.args.known.now g c.args.switch c.requires.many c.args.epoch c.end.new.self c.args.out.now ends
    (ap (λ (x : Gathering). is_whole x) (sym same) ∙ sym c.is_whole.ensures ∙ c.if-not-is_whole.true) same

pub returns-clause-ended : goal.returns-clause-ended
returns-clause-ended c =
    let g : Gathering = c.args.gatherer.now in
    let ends : ends_now g c.args.switch c.args.epoch ≡ true = sym c.in_ok-ends.ensures.told ∙ c.if-not-ends.false in
    let same : c.end.new.self ≡ with_ended c.args.switch g = with_end g c.end.new.self c.args.switch c.args.epoch true c.in_ok-ends.ensures.ended ends in
    let emptied : c.take_kept-kept.new.self ≡ record (with_ended c.args.switch g) { kept = [] } =
    c.take_kept-kept.ensures.none ∙ ap (λ (x : Gathering). let y : Gathering = record x { kept = [] } in y) same in
    end_last_ok c.hear_all.result c.args.known.now g c.args.switch c.requires.many c.args.epoch c.epoch.result c.hear_all.new.self c.take_kept-kept.new.self
    (map heard_of c.deref.result.now) c.args.out.now c.hear_all.new.out ends
    (ap (λ (x : Gathering). is_whole x) (sym same) ∙ sym c.is_whole.ensures ∙ c.if-not-is_whole.false) emptied (c.epoch.ensures ∙ ap (λ (x : Gathering). x.epoch) emptied)
    (ap (λ (ks : List Kept). map heard_of ks) c.deref.ensures.value ∙ c.take_kept-kept.ensures.all ∙ ap (λ (x : Gathering). x.kept) same) c.hear_all.ensures.heard
