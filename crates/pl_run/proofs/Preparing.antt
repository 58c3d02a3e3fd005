-- Over a shelf that is prepared no call fails.
use Rattle.std.proofs.Common.{◌≡◌, ℕ, List, Option, sym, subst}
use Rattle.std.proofs.lemmas.List.Elements.{All-weaker}
use Rattle.pl_shelf.specs.Capacity.{FitsBehind, IsReadable}
use Rattle.pl_shelf.specs.Held.{Held, Same, created}
use Rattle.pl_inputs.specs.declared.status.Status.{Status}
use Rattle.pl_inputs.specs.declared.words.Generation.{Generation}
use Rattle.pl_inputs.specs.declared.words.Network.{Network}
use Rattle.pl_inputs.specs.Inputs.{Inputs}
use Rattle.pl_inputs.specs.Loads.{IsUnplanned, IsUnpromised}
use Rattle.pl_inputs.specs.Unread.{IsUnread}
use Rattle.pl_inputs.specs.Words.{Asked}
use Rattle.pl_output.specs.Room.{HasRoom, HaveRoom}
use Rattle.pl_output.specs.Saved.{Saving}
use Rattle.pl_inputs.specs.declared.status.Status.TheVariants as status
use Rattle.pl_playing.specs.Prepared.{NamesNoFault}
use Rattle.pl_run.specs.Generated.{IsUngenerated}
use Rattle.pl_run.specs.Prepared.{IsPreparedRun}
use Rattle.pl_run.specs.Fabric.{HasRoomFor, IsPlayed}

-- what could be read at first can be read still
pub readable_since : (before after : List ℕ → Option ℕ) (old new : List ℕ → Held) (name : List ℕ) → after ≡ before → Same old new →
    IsReadable (before name) (old name) → IsReadable (after name) (new name)
readable_since before after old new name kept same is =
    subst (λ h. IsReadable (after name) h) (sym (same name)) (subst (λ k. IsReadable (k name) (old name)) (sym kept) is)

-- and there is room still
has_room_since : (before after : List ℕ → Option ℕ) (old new : List ℕ → Held) (s : Saving) → after ≡ before → Same old new →
    HasRoom before old s → HasRoom after new s
has_room_since before after old new s kept same is =
    subst (λ h. FitsBehind (after s.name) (created s.name h) s.text) (sym (same s.name))
    (subst (λ k. FitsBehind (k s.name) (created s.name (old s.name)) s.text) (sym kept) is)

pub have_room_since : (before after : List ℕ → Option ℕ) (old new : List ℕ → Held) (savings : List Saving) → after ≡ before → Same old new →
    HaveRoom before old savings → HaveRoom after new savings
have_room_since before after old new savings kept same are =
    All-weaker (HasRoom before old) (HasRoom after new) (λ s is. has_room_since before after old new s kept same is) savings are

pub room_since : (network : Network) (before after : List ℕ → Option ℕ) (old new : List ℕ → Held) (i : Inputs) (texts : IsPlayed network i → List Saving) → after ≡ before → Same old new →
    HasRoomFor network before old i texts → HasRoomFor network after new i texts
room_since network before after old new i texts kept same room = λ is. have_room_since before after old new (texts is) kept same (room is)

-- a run whose inputs were not read
pub unread_names_none : (before after : List ℕ → Option ℕ) (old new : List ℕ → Held) (asked : Asked) → after ≡ before → Same old new →
    IsPreparedRun before old asked → (e : Status) → IsUnread old asked e → IsUnpromised after new e → NamesNoFault e
unread_names_none before after old new asked kept same is (status.ReadFault name) u none =
    none (readable_since before after old new name kept same (is.reads name u))
unread_names_none before after old new asked kept same is (status.WriteFault name) u none = absurd u
unread_names_none before after old new asked kept same is status.Done u none = tt
unread_names_none before after old new asked kept same is status.Usage u none = tt
unread_names_none before after old new asked kept same is (status.NotLegal entry) u none = tt
unread_names_none before after old new asked kept same is (status.BadJournal line) u none = tt
unread_names_none before after old new asked kept same is (status.TooLong name) u none = tt
unread_names_none before after old new asked kept same is (status.BadTopology reason) u none = tt
unread_names_none before after old new asked kept same is (status.BadScript line reason) u none = tt
unread_names_none before after old new asked kept same is (status.BadCapture host e at) u none = tt
unread_names_none before after old new asked kept same is (status.BadSection host e) u none = tt
unread_names_none before after old new asked kept same is (status.ExpectFailed line) u none = tt
unread_names_none before after old new asked kept same is (status.Refused line reason) u none = tt
unread_names_none before after old new asked kept same is (status.StepsSpent line) u none = tt
unread_names_none before after old new asked kept same is (status.JournalFull line) u none = tt
unread_names_none before after old new asked kept same is status.OutOfMemory u none = tt

-- a topology that was not read
pub unplanned_names_none : (before after : List ℕ → Option ℕ) (old new : List ℕ → Held) (topology : List ℕ) → after ≡ before → Same old new →
    IsReadable (before topology) (old topology) → (e : Status) → IsUnplanned old topology e → IsUnpromised after new e → NamesNoFault e
unplanned_names_none before after old new topology kept same is (status.ReadFault name) u none =
    none (readable_since before after old new name kept same (subst (λ n. IsReadable (before n) (old n)) (sym u) is))
unplanned_names_none before after old new topology kept same is (status.WriteFault name) u none = absurd u
unplanned_names_none before after old new topology kept same is status.Done u none = tt
unplanned_names_none before after old new topology kept same is status.Usage u none = tt
unplanned_names_none before after old new topology kept same is (status.NotLegal entry) u none = tt
unplanned_names_none before after old new topology kept same is (status.BadJournal line) u none = tt
unplanned_names_none before after old new topology kept same is (status.TooLong name) u none = tt
unplanned_names_none before after old new topology kept same is (status.BadTopology reason) u none = tt
unplanned_names_none before after old new topology kept same is (status.BadScript line reason) u none = tt
unplanned_names_none before after old new topology kept same is (status.BadCapture host e at) u none = tt
unplanned_names_none before after old new topology kept same is (status.BadSection host e) u none = tt
unplanned_names_none before after old new topology kept same is (status.ExpectFailed line) u none = tt
unplanned_names_none before after old new topology kept same is (status.Refused line reason) u none = tt
unplanned_names_none before after old new topology kept same is (status.StepsSpent line) u none = tt
unplanned_names_none before after old new topology kept same is (status.JournalFull line) u none = tt
unplanned_names_none before after old new topology kept same is status.OutOfMemory u none = tt

-- generated files that were not read
pub ungenerated_names_none : (g : Generation) (e : Status) → IsUngenerated g e → NamesNoFault e
ungenerated_names_none g (status.ReadFault name) u = u
ungenerated_names_none g (status.WriteFault name) u = u.2
ungenerated_names_none g status.Done u = tt
ungenerated_names_none g status.Usage u = tt
ungenerated_names_none g (status.NotLegal entry) u = tt
ungenerated_names_none g (status.BadJournal line) u = tt
ungenerated_names_none g (status.TooLong name) u = tt
ungenerated_names_none g (status.BadTopology reason) u = tt
ungenerated_names_none g (status.BadScript line reason) u = tt
ungenerated_names_none g (status.BadCapture host e at) u = tt
ungenerated_names_none g (status.BadSection host e) u = tt
ungenerated_names_none g (status.ExpectFailed line) u = tt
ungenerated_names_none g (status.Refused line reason) u = tt
ungenerated_names_none g (status.StepsSpent line) u = tt
ungenerated_names_none g (status.JournalFull line) u = tt
ungenerated_names_none g status.OutOfMemory u = tt
