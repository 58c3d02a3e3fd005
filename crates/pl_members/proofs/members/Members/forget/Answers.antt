use Rattle.std.proofs.Common.{◌≡◌, rules, ◌∙◌, ap, not, subst, sym}
use Rattle.std.specs.List.{All, filter}
use Rattle.std.proofs.lemmas.Fn.{filter_same}
use Rattle.std.proofs.lemmas.List.Elements.{All-filter}
use Rattle.pl_switch_rule.specs.Intake.{is_member}
use Rattle.pl_members.specs.Reached.{MemberIsAtPort}
use Rattle.pl_members.proofs.members.Members.forget.Goals as goal

kept : (c : goal.After-retain) → c.retain.new.self.keys ≡ filter (λ m. not (is_member c.args.port c.args.amac m)) c.self.inside.members.keys
kept c = filter_same _ (λ m. not (is_member c.args.port c.args.amac m)) _ (λ m b f called. search rules) _ _ c.retain.ensures.filtered

pub invariant_of-self : goal.invariant_of-self
invariant_of-self c = record {
  rising = c.retain.ensures.ordered;
  at_ports = subst (All MemberIsAtPort) (sym (kept c))
      (All-filter (λ m. not (is_member c.args.port c.args.amac m)) MemberIsAtPort c.self.inside.members.keys c.self.invariant.at_ports);
}

pub returns : goal.returns
returns c = kept c ∙ ap (filter (λ m. not (is_member c.args.port c.args.amac m))) c.self.view_is
