use Rattle.std.proofs.Common.{◌∙◌, sym, inl}
use Rattle.std.proofs.lemmas.Bool.{true≢false}
use Rattle.pl_position.proofs.proposer.Proposer.on_vote.Goals as goal

pub returns-then-vote-clause-gives_way : goal.returns-then-vote-clause-gives_way
returns-then-vote-clause-gives_way c = record {
  stays = λ refused firm. absurd (true≢false (sym c.if-vote.true ∙ refused));
  last = λ refused end. absurd (true≢false (sym c.if-vote.true ∙ refused));
  next = inl c.count_grant.ensures.attempt;
}

pub returns-then-gives_way-clause-gives_way : goal.returns-then-gives_way-clause-gives_way
returns-then-gives_way-clause-gives_way c = record {
  stays = λ refused firm. absurd (true≢false (sym c.if-gives_way.true ∙ c.gives_way.ensures ∙ firm));
  last = λ refused end. c.move_on.ensures.last end;
  next = c.move_on.ensures.next;
}
