use Rattle.std.proofs.Common.{◌≡◌, ℕ, ◌==◌, ◌||◌}
use Rattle.std.specs.List.{All, list_any}
use Rattle.pl_lists.specs.Ports.{ports_of}
use Rattle.pl_members.specs.Reached.{MemberIsAtPort}
use Rattle.pl_members.proofs.members.Members.ports_for.Given as goal

-- the ports so far, and those of the members that are left
abbrev pub invariant-loop-member : goal.invariant-loop-member
invariant-loop-member l = record {
  at_ports : All MemberIsAtPort l.member-iterator;
  ports : (q : ℕ) → (list_any (λ p. p == q) (ports_of l.ports) || list_any (λ m. m.port == q) l.member-iterator) ≡ list_any (λ m. m.port == q) l.initial.member-iterator;
}
