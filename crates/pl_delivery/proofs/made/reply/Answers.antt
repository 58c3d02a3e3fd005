use Rattle.std.proofs.Common.{◌≡◌, List, ℕ, None, Option, option_map, sym, ap, ◌∙◌}
use Rattle.std.proofs.lemmas.Result.{IfOk-weaker}
use Rattle.pl_node.specs.SwitchViews.{SwitchView}
use Rattle.pl_delivery.proofs.Newer.{none_for, none_for_arp, some_for, tells}
use Rattle.pl_delivery.proofs.made.reply.Goals as goal
use Rattle.pl_delivery.specs.Replies.{last_from, reply_to}
use Rattle.pl_delivery.specs.Sending.{makes_any}
use Rattle.pl_migrate.specs.AddressTables.{AddressTableView, address_table_in, trap_in}
use Rattle.pl_switch_rule.specs.Delivering.{destination, newer_address, tells_sender, trap_for}
use Rattle.pl_switch_rule.specs.Forwarding.{Choice}

-- the reply to a frame by the traps of an address table
abbrev IsReply : AddressTableView → List ℕ → Option (List ℕ) → Type 0
IsReply address_table frame reply = (v : SwitchView) → reply ≡ reply_to frame (last_from (address_table_in address_table v) (trap_for (address_table_in address_table v) (destination frame)))

abbrev Tells : AddressTableView → List ℕ → Option (List ℕ) → Type 0
Tells address_table frame reply = (choose : Choice) → (v : SwitchView) → makes_any choose reply (address_table_in address_table v) ≡ tells_sender choose frame (trap_for (address_table_in address_table v) (destination frame)) (address_table_in address_table v)

told : (address_table : AddressTableView) (frame : List ℕ) (reply : Option (List ℕ)) → IsReply address_table frame reply → Tells address_table frame reply
told address_table frame reply is = λ choose v.
    ap (λ r. makes_any choose r (address_table_in address_table v)) (is v) ∙ tells choose frame (trap_for (address_table_in address_table v) (destination frame)) (address_table_in address_table v)

arp : (c : goal.Then-is_arp) → IsReply c.args.address_table.now c.args.frame.now None
arp c = λ v.
    none_for_arp c.args.frame.now (last_from (address_table_in c.args.address_table.now v) (trap_for (address_table_in c.args.address_table.now v) (destination c.args.frame.now)))
    (sym c.is_arp.ensures ∙ c.if-is_arp.true)

trapped : (c : goal.After-newer_address) (reply : Option (List ℕ)) → reply ≡ option_map (newer_address c.args.frame.now c.last_trap.result.new) c.last_trap.result.ip →
    IsReply c.args.address_table.now c.args.frame.now reply
trapped c reply replied = λ v.
    some_for c.args.address_table.now c.args.frame.now c.in-Some.trap c.last_trap.result reply v (sym c.is_arp.ensures ∙ c.if-is_arp.false)
    (sym c.in-Some.is ∙ c.follow.ensures ∙ ap (trap_in c.args.address_table.now) c.destination.ensures) (c.last_trap.ensures v) replied

untrapped : (c : goal.In-None) → IsReply c.args.address_table.now c.args.frame.now None
untrapped c = λ v.
    none_for c.args.address_table.now c.args.frame.now v (sym c.in-None.is ∙ c.follow.ensures ∙ ap (trap_in c.args.address_table.now) c.destination.ensures)

pub returns-then-is_arp-clause-reply : goal.returns-then-is_arp-clause-reply
returns-then-is_arp-clause-reply c = arp c

pub returns-then-is_arp-clause-tells : goal.returns-then-is_arp-clause-tells
returns-then-is_arp-clause-tells c = told c.args.address_table.now c.args.frame.now None (arp c)

pub returns-in-Some-clause-reply : goal.returns-in-Some-clause-reply
returns-in-Some-clause-reply c =
    IfOk-weaker c.newer_address.result
    (λ (reply : Option (List ℕ)). reply ≡ option_map (newer_address c.args.frame.now c.last_trap.result.new) c.last_trap.result.ip)
    (IsReply c.args.address_table.now c.args.frame.now) (trapped c) c.newer_address.ensures.reply

pub returns-in-Some-clause-tells : goal.returns-in-Some-clause-tells
returns-in-Some-clause-tells c =
    IfOk-weaker c.newer_address.result
    (λ (reply : Option (List ℕ)). reply ≡ option_map (newer_address c.args.frame.now c.last_trap.result.new) c.last_trap.result.ip)
    (Tells c.args.address_table.now c.args.frame.now) (λ reply replied. told c.args.address_table.now c.args.frame.now reply (trapped c reply replied)) c.newer_address.ensures.reply

pub returns-in-None-clause-reply : goal.returns-in-None-clause-reply
returns-in-None-clause-reply c = untrapped c

pub returns-in-None-clause-tells : goal.returns-in-None-clause-tells
returns-in-None-clause-tells c = told c.args.address_table.now c.args.frame.now None (untrapped c)
