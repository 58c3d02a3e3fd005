-- What each part of a step writes of places, of registrations and of restarts.
use Rattle.std.proofs.Common.{◌≡◌, ℕ, ◌+◌, List, [], ◌∷◌, ◌++◌, set, Option, Some, None, refl, sym, ap, ◌∙◌, subst, append-nil, append_assoc}
use Rattle.std.specs.List.{AllByRecursion, cons_option, filter_map}
use Rattle.std.proofs.lemmas.List.Elements.{filter_map-append}
use Rattle.pl_pmac.specs.declared.pmac.Pmac.{Pmac}
use Rattle.pl_layouts.specs.declared.place.Place.{Place}
use Rattle.pl_wiring.specs.declared.link.Link.{Link}
use Rattle.pl_journal.specs.declared.entry.Entry.{Entry}
use Rattle.pl_journal.specs.declared.entry.Entry.TheVariants.{Restarted, Sent}
use Rattle.pl_node.specs.declared.acts.Act.{Act}
use Rattle.pl_node.specs.HostInputs.{HostAnswer, HostInput, HostRule}
use Rattle.pl_world.specs.declared.attachment.AttachmentPoint.{AttachmentPoint}
use Rattle.pl_world.specs.Changes.{host_no}
use Rattle.pl_world.specs.LinksAndMoves.{host_moved, link_failed, link_repaired}
use Rattle.pl_world.specs.SwitchActs.{DuringActs, acts_done}
use Rattle.pl_world.specs.WorldRule.{HostTurn}
use Rattle.pl_world.specs.Worlds.{WorldView}
use Rattle.pl_world.proofs.Exports.{acts_left, Amid, empties_of, failed_left, host_acts_left, moved_left, repaired_left, SwitchesWrite, Takes, Writes}
use Rattle.pl_law_records.specs.Entries.{placing_in, placings, registration_in, registrations}

-- that the manager began anew
abbrev pub restart_in : Entry → Option ℕ
restart_in (Restarted epoch) = Some epoch
restart_in entry = None

abbrev pub restarts_in : List Entry → List ℕ
restarts_in entries = filter_map restart_in entries

-- a journal grows by entries that say these places and these registrations, and no restart
pub record Adds (before after : List Entry) (places : List (ℕ × Place)) (registered : List (Pmac × ℕ)) : Type 0 where
  pub entries : List Entry
  pub added : after ≡ before ++ entries
  pub of_places : placings entries ≡ places
  pub of_registrations : registrations entries ≡ registered
  pub of_restarts : restarts_in entries ≡ []

pub adds_nothing : (j : List Entry) → Adds j j [] []
adds_nothing j = record { entries = []; added = sym (append-nil j); of_places = refl; of_registrations = refl; of_restarts = refl }

pub adds_then : (a b c : List Entry) (x y : List (ℕ × Place)) (m n : List (Pmac × ℕ)) → Adds a b x m → Adds b c y n → Adds a c (x ++ y) (m ++ n)
adds_then a b c x y m n first next = record {
  entries = first.entries ++ next.entries;
  added = next.added ∙ ap (λ j. j ++ next.entries) first.added ∙ append_assoc a first.entries next.entries;
  of_places = filter_map-append placing_in first.entries next.entries ∙ ap (λ p. p ++ placings next.entries) first.of_places ∙ ap (λ p. x ++ p) next.of_places;
  of_registrations = filter_map-append registration_in first.entries next.entries ∙ ap (λ p. p ++ registrations next.entries) first.of_registrations
      ∙ ap (λ p. m ++ p) next.of_registrations;
  of_restarts = filter_map-append restart_in first.entries next.entries ∙ ap (λ p. p ++ restarts_in next.entries) first.of_restarts ∙ next.of_restarts;
}

-- entries that say none of them
abbrev pub IsOther : Entry → Type 0
IsOther e = (placing_in e ≡ None) × (registration_in e ≡ None) × (restart_in e ≡ None)

others_say_nothing : (es : List Entry) → AllByRecursion IsOther es → (placings es ≡ []) × (registrations es ≡ []) × (restarts_in es ≡ [])
others_say_nothing [] all = (refl, refl, refl)
others_say_nothing (e ∷ es) all =
    let rest = others_say_nothing es all.1 in (
      ap (λ o. cons_option o (placings es)) all.0.0 ∙ rest.0,
      ap (λ o. cons_option o (registrations es)) all.0.1 ∙ rest.1,
      ap (λ o. cons_option o (restarts_in es)) all.0.2 ∙ rest.2,
    )

pub adds_others : (j : List Entry) (es : List Entry) → AllByRecursion IsOther es → Adds j (j ++ es) [] []
adds_others j es all =
    let say = others_say_nothing es all in record { entries = es; added = refl; of_places = say.0; of_registrations = say.1; of_restarts = say.2 }

-- A world whose journal grew by other entries, and whose switches and manager are as they were.
pub record AddsOtherEntries (w new : WorldView) : Type 0 where
  pub adds : Adds w.journal new.journal [] []
  pub switches : new.switches ≡ w.switches
  pub manager : new.manager ≡ w.manager

pub quiet_then : (a b c : WorldView) → AddsOtherEntries a b → AddsOtherEntries b c → AddsOtherEntries a c
quiet_then a b c first next = record {
  adds = adds_then a.journal b.journal c.journal [] [] [] [] first.adds next.adds;
  switches = next.switches ∙ first.switches;
  manager = next.manager ∙ first.manager;
}

pub quiet_self : (w : WorldView) → AddsOtherEntries w w
quiet_self w = record { adds = adds_nothing w.journal; switches = refl; manager = refl }

pub noted_quiet : (w : WorldView) (es : List Entry) → AllByRecursion IsOther es → AddsOtherEntries w (record w { journal = w.journal ++ es })
noted_quiet w es all = record { adds = adds_others w.journal es all; switches = refl; manager = refl }

beside : (w new : WorldView) → new.journal ≡ w.journal → new.switches ≡ w.switches → new.manager ≡ w.manager → AddsOtherEntries w new
beside w new journal switches manager =
    record { adds = subst (λ (j : List Entry). Adds w.journal j [] []) (sym journal) (adds_nothing w.journal); switches = switches; manager = manager }

-- ---- what a world is made of
pub quiet_writes : Writes AddsOtherEntries IsOther
quiet_writes = record { same = quiet_self; on = quiet_then; entry = λ w e other. noted_quiet w (e ∷ []) (other, tt); dropped = λ id cause. (refl, refl, refl) }

pub quiet_acts : SwitchesWrite AddsOtherEntries IsOther
quiet_acts = record {
  begun = λ w e other. record { adds = adds_others w.journal (e ∷ []) (other, tt); switches = refl; manager = refl };
  crossed = λ id s. (refl, refl, refl);
  copied = λ id copy. (refl, refl, refl);
  made = λ id s frame. (refl, refl, refl);
  granted = λ pmac h s port. (refl, refl, refl);
  freed = λ pmac. (refl, refl, refl);
  redirected = λ id old new. (refl, refl, refl);
  taken = λ id s. (refl, refl, refl);
}

pub quiet_takes : Takes AddsOtherEntries
quiet_takes = record {
  from_hosts = λ w h items. beside w _ refl refl refl;
  out = λ w i items. beside w _ refl refl refl;
  to_manager = λ w s items. beside w _ refl refl refl;
  from_manager = λ w s items. beside w _ refl refl refl;
  heard = λ w heard. beside w _ refl refl refl;
}

-- over the acts of a switch
pub acts_quiet : (s : ℕ) (d : DuringActs) (acts : List Act) → AllByRecursion IsOther d.late → Amid AddsOtherEntries IsOther quiet_writes d.world (acts_done s d acts)
acts_quiet s d acts all =
    acts_left AddsOtherEntries IsOther quiet_writes quiet_acts (λ w i item. beside w _ refl refl refl) (λ w t told. beside w _ refl refl refl) s d acts all

pub turn_quiet : (rule : HostRule) (w : WorldView) (h : ℕ) (input : HostInput) (answer : HostAnswer) (new : WorldView) → HostTurn rule w h input answer new → AddsOtherEntries w new
turn_quiet rule w h input answer new turn =
    quiet_then w (record w { hosts = set w.hosts h turn.after }) new (beside w _ refl refl refl)
    (host_acts_left AddsOtherEntries IsOther quiet_writes h
    (λ u frame. record { adds = adds_others u.journal (Sent (u.begun + 1) (host_no h) frame ∷ []) ((refl, refl, refl), tt); switches = refl; manager = refl })
    rule w input answer new turn)

pub moved_quiet : (w : WorldView) (h : ℕ) (from to : AttachmentPoint) → AddsOtherEntries w (host_moved w h from to)
moved_quiet w h from to =
    moved_left AddsOtherEntries IsOther quiet_writes (empties_of AddsOtherEntries quiet_takes) w h from to (refl, refl, refl) (λ u. beside u _ refl refl refl)

pub failed_quiet : (w : WorldView) (link : Link) → AddsOtherEntries w (link_failed w link)
failed_quiet w link =
    failed_left AddsOtherEntries IsOther quiet_writes (λ u i. quiet_takes.out u i []) w link (refl, refl, refl) (λ u links. beside u _ refl refl refl)

pub repaired_quiet : (w : WorldView) (link : Link) → AddsOtherEntries w (link_repaired w link)
repaired_quiet w link = repaired_left AddsOtherEntries IsOther quiet_writes w link (refl, refl, refl) (λ u links. beside u _ refl refl refl)
