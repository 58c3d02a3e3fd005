-- A world stays in form where an item is put into a queue out of a port, or cannot be.
use Rattle.std.proofs.Common.{◌≡◌, ℕ, List, Result, Ok, Err, OnErr, OnOk, length, slice_set, ap, ◌∙◌, subst, sym}
use Rattle.std.specs.List.{AllByRecursion}
use Rattle.std.proofs.lemmas.List.{length-set}
use Rattle.pl_node.specs.SwitchViews.{SwitchView}
use Rattle.pl_queues.specs.Queues.{put_at}
use Rattle.pl_world.specs.declared.item.Item.{Item}
use Rattle.pl_world.specs.Flying.{IsFormed}
use Rattle.pl_world.specs.Pending.{SwitchesView}
use Rattle.pl_world.specs.Worlds.{WorldView}

formed_same : (v : WorldView) (switches : List SwitchView) (out : List (List Item)) → switches ≡ v.switches → length out ≡ length v.out → IsFormed v →
    IsFormed (record v { switches = switches; out = out })
formed_same v switches out same many f = record {
  plan = f.plan;
  links = f.links;
  attachments = f.attachments;
  at_ports = f.at_ports;
  heard = f.heard;
  switches = ap length same ∙ f.switches;
  ports = subst (AllByRecursion (λ u. u.k ≡ v.plan.k)) (sym same) f.ports;
  hosts = f.hosts;
  from_hosts = f.from_hosts;
  out = many ∙ f.out;
  to_manager = f.to_manager;
  from_manager = f.from_manager;
}

module _ (v : WorldView) (old new : SwitchesView) (at : ℕ) (switches : v.switches ≡ old.switches) (out : v.out ≡ old.out) (formed : IsFormed v) where
  formed_with : (queue : List Item) → new ≡ record old { out = slice_set old.out at queue } → IsFormed (record v { switches = new.switches; out = new.out })
  formed_with queue changed =
      formed_same v new.switches new.out (ap (λ a. a.switches) changed ∙ sym switches)
      (ap (λ a. length a.out) changed ∙ length-set old.out at queue ∙ ap length (sym out)) formed

  formed_yet : new ≡ old → IsFormed (record v { switches = new.switches; out = new.out })
  formed_yet same =
      formed_same v new.switches new.out (ap (λ a. a.switches) same ∙ sym switches) (ap (λ a. length a.out) same ∙ ap length (sym out)) formed

  pub formed_put : {X E : Type 0} (result : Result X E) (item : Item) → OnOk result (new ≡ record old { out = put_at old.out at item }) →
      OnErr result (new ≡ old) → IsFormed (record v { switches = new.switches; out = new.out })
  formed_put (Ok x) item ok err = formed_with _ ok
  formed_put (Err e) item ok err = formed_yet err
