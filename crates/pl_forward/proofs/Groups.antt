-- The ports by which a frame to a group leaves, where no part of the tree is known, and behind its source.
use Rattle.std.proofs.Common.{◌≡◌, ℕ, ◌==◌, true, not, ◌&&◌, [], None, sym, ap, ◌∙◌}
use Rattle.std.specs.List.{filter}
use Rattle.pl_node.specs.PortRecords.{id_at, is_usable, ports_of_switch, ports_where}
use Rattle.pl_node.specs.SwitchFacts.{part_of}
use Rattle.pl_node.specs.SwitchViews.{SwitchView}
use Rattle.pl_pmac.specs.declared.pmac.Pmac.{Pmac}
use Rattle.pl_switch_rule.specs.Granting.{is_local}
use Rattle.pl_switch_rule.specs.GroupForwarding.{at_most_one, group_ports_down, group_ports_up, host_ports, is_down, is_reached, is_up}
use Rattle.pl_forward.proofs.Passing.{fails_behind, passes_both}

pub none_up : (v : SwitchView) (group : ℕ) → part_of v group ≡ None → group_ports_up v group ≡ []
none_up v group e =
    ap (λ part. at_most_one (ports_where v (λ port. is_usable v port && is_up part (id_at v port)))) e
    ∙ ap at_most_one (fails_behind (is_usable v) (ports_of_switch v.k))

pub none_down : (v : SwitchView) (group : ℕ) → part_of v group ≡ None → group_ports_down v group ≡ []
none_down v group e =
    ap (λ part. ports_where v (λ port. is_usable v port && is_down part (id_at v port))) e ∙ fails_behind (is_usable v) (ports_of_switch v.k)

-- a source of this edge switch does not get its own frame
pub behind_source : (v : SwitchView) (group : ℕ) (source : Pmac) → is_local v source ≡ true
    → filter (λ p. not (source.port == p)) (ports_where v (is_reached v group)) ≡ host_ports v group source
behind_source v group source here =
    passes_both (is_reached v group) (λ p. not (source.port == p)) (ports_of_switch v.k)
    ∙ sym (ap (λ b. ports_where v (λ p. is_reached v group p && not (b && (source.port == p)))) here)
