use Rattle.std.proofs.Common.{◌∙◌, ◌+◌, ◌++◌, ◌∷◌, [], ap, sym, reverse}
use Rattle.std.proofs.lemmas.Bool.{both_ways}
use Rattle.pl_verify.proofs.Judging.{as_many, none_yet, one_longer, right_before, right_now, wrong_before, wrong_now}
use Rattle.pl_verify.proofs.Reading.{checkable}
use Rattle.pl_verify.proofs.judge.Judge.hear.Goals as goal

pub returns-then-is_some-clause-judged : goal.returns-then-is_some-clause-judged
returns-then-is_some-clause-judged c = λ journal order within line judged. record {
  many = ap (λ n. n + 1) judged.many ∙ sym (one_longer journal c.args.entry.now);
  stands = wrong_before c.args.wiring.now c.args.text.now journal c.args.entry.now _ _ _ (sym c.is_some.ensures ∙ c.if-is_some.true) judged.stands;
}

pub may_follow-requires : goal.may_follow-requires
may_follow-requires c = checkable c.args.wiring.now c.args.entry.now c.requires.writable

pub keep-requires : goal.keep-requires
keep-requires c = checkable c.args.wiring.now c.args.entry.now c.requires.writable

pub returns-then-not-follows-clause-judged : goal.returns-then-not-follows-clause-judged
returns-then-not-follows-clause-judged c = λ journal order within line judged.
    let right = right_before c.args.wiring.now c.args.text.now journal c.args.self.now.past c.args.self.now.wrong (sym c.is_some.ensures ∙ c.if-is_some.false)
    judged.stands in
    record {
      many = ap (λ n. n + 1) judged.many ∙ sym (one_longer journal c.args.entry.now);
      stands = wrong_now c.args.wiring.now c.args.text.now journal c.args.entry.now c.args.self.now.past c.args.self.now.past (c.args.self.now.count + 1) right
          (ap (λ n. n + 1) judged.many)
          (λ follows. both_ways _ c.if-not-follows.true ((c.in_ok-follows.ensures (reverse journal) right.0).1 follows));
    }

pub returns-clause-judged : goal.returns-clause-judged
returns-clause-judged c = λ journal order within line judged.
    let right = right_before c.args.wiring.now c.args.text.now journal c.args.self.now.past c.args.self.now.wrong (sym c.is_some.ensures ∙ c.if-is_some.false)
    judged.stands in
    let follows = (c.in_ok-follows.ensures (reverse journal) right.0).0 c.if-not-follows.false in
    record {
      many = ap (λ n. n + 1) judged.many ∙ sym (one_longer journal c.args.entry.now);
      stands = none_yet c.args.wiring.now c.args.text.now (journal ++ c.args.entry.now ∷ []) _ c.args.self.now.wrong
          (sym c.is_some.ensures ∙ c.if-is_some.false)
          (right_now c.args.wiring.now c.args.text.now journal c.args.entry.now c.args.self.now.past _ right follows
          (c.in_ok-keep.ensures c.args.text.now (reverse journal) right.0 (ap (λ n. n + 1) (judged.many ∙ sym (as_many journal)))
          (c.digits_at-from.ensures c.args.text.now c.args.at order within line) follows));
    }
