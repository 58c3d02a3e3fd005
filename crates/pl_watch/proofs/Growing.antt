-- A step writes behind what stands in the journal.
use Rattle.std.proofs.Common.{◌≡◌, ◌+◌, List, [], ◌∷◌, ◌++◌, drop, length, refl, sym, ap, ◌∙◌}
use Rattle.std.proofs.lemmas.List.{append_assoc, append-nil}
use Rattle.std.proofs.Math.Seq.{drop-append_seam}
use Rattle.pl_journal.specs.declared.entry.Entry.{Entry}
use Rattle.pl_node.specs.HostInputs.{HostRule}
use Rattle.pl_node.specs.ManagerDuties.{ManagerRule}
use Rattle.pl_node.specs.SwitchInputs.{SwitchRule}
use Rattle.pl_world.specs.declared.event.Event.{Event}
use Rattle.pl_world.specs.Drops.{written}
use Rattle.pl_world.specs.WorldRule.{WorldStep}
use Rattle.pl_world.specs.Worlds.{WorldView}
use Rattle.pl_world.proofs.Exports.{Any, any_of_switches, event_left, MovesAndLinks, Takes, Turns, Writes}

record Grows (a b : WorldView) : Type 0 where
  wrote : List Entry
  is : b.journal ≡ a.journal ++ wrote
  limits : b.limits ≡ a.limits

still : (a b : WorldView) → b.journal ≡ a.journal → b.limits ≡ a.limits → Grows a b
still a b same limits = record { wrote = []; is = same ∙ sym (append-nil a.journal); limits = limits }

one : (a b : WorldView) (e : Entry) → b.journal ≡ a.journal ++ e ∷ [] → b.limits ≡ a.limits → Grows a b
one a b e is limits = record { wrote = e ∷ []; is = is; limits = limits }

grows_on : (a b c : WorldView) → Grows a b → Grows b c → Grows a c
grows_on a b c first next = record {
  wrote = first.wrote ++ next.wrote;
  is = next.is ∙ ap (λ (j : List Entry). j ++ next.wrote) first.is ∙ append_assoc a.journal first.wrote next.wrote;
  limits = next.limits ∙ first.limits;
}

grown_writes : Writes Grows Any
grown_writes = record { same = λ w. still w w refl refl; on = grows_on; entry = λ w e may. one w _ e refl refl; dropped = λ id why. tt }

grown_takes : Takes Grows
grown_takes = record {
  from_hosts = λ w h items. still w _ refl refl;
  out = λ w i items. still w _ refl refl;
  to_manager = λ w s items. still w _ refl refl;
  from_manager = λ w s items. still w _ refl refl;
  heard = λ w heard. still w _ refl refl;
}

grown_turns : Turns Grows Any
grown_turns = record {
  switches_write = any_of_switches Grows (λ w e. one w _ e refl refl);
  placed = λ s place. tt;
  registered = λ pmac n. tt;
  out = λ w i item. still w _ refl refl;
  reports = λ w s told. still w _ refl refl;
  sends = λ w n frame. one w _ _ refl refl;
  orders = λ w s says. still w _ refl refl;
  switches = λ w s view. still w _ refl refl;
  hosts = λ w n view. still w _ refl refl;
  manager = λ w view. still w _ refl refl;
}

grown_moves : MovesAndLinks Grows Any
grown_moves =
    record {
      moved = λ h s port. tt;
      down = λ a b. tt;
      up = λ a b. tt;
      attachments = λ w h to. still w _ refl refl;
      links = λ w links. still w _ refl refl;
      restarted = λ n. tt;
      anew = λ w n. still w _ refl refl;
    }

module _ (switch : SwitchRule) (manager : ManagerRule) (host : HostRule) (old : WorldView) (happens : Event) (new : WorldView)
    (step : WorldStep switch manager host old happens new) where
  grown : Grows (record old { steps = old.steps + 1 }) new
  grown =
      event_left Grows Any grown_writes grown_takes (λ id s. tt) (λ id h frame. tt) (λ h skip. tt) switch manager host (record old { steps = old.steps + 1 }) happens new
      grown_turns grown_moves step

  pub journal_grows : new.journal ≡ old.journal ++ written old new
  journal_grows =
      grown.is
      ∙ ap (λ (es : List Entry). old.journal ++ es) (sym (drop-append_seam old.journal grown.wrote))
      ∙ ap (λ (j : List Entry). old.journal ++ drop (length old.journal) j) (sym grown.is)

  pub limits_stay : new.limits ≡ old.limits
  limits_stay = grown.limits
