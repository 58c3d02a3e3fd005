-- Over a shelf that is prepared no call fails.
use Rattle.std.proofs.Common.{ℕ, ◌↔◌, Bool, IsTrue, List, Option, refl, sym, subst}
use Rattle.pl_shelf.specs.Held.{Held}
use Rattle.pl_inputs.specs.declared.status.Status.{Status}
use Rattle.pl_inputs.specs.Inputs.{Inputs}
use Rattle.pl_output.specs.Room.{HaveRoom}
use Rattle.pl_inputs.specs.declared.status.Status.TheVariants as status
use Rattle.pl_playing.specs.Outcomes.{Course, Play, printed_of, texts_of}
use Rattle.pl_playing.specs.Plays.{IsPlayedTo, IsUnplayed, Played, printed_by, texts_by}
use Rattle.pl_playing.specs.Prepared.{HasRoomFor, NamesNoFault}
use Rattle.pl_playing.proofs.Stopped.{no_stop}
use Rattle.pl_playing.proofs.Playing.{is_played, printed_is, texts_are}

module _ (leads : Course) where
  -- a script that was not played to its end
  pub unplayed_names_none : (i : Inputs) (e : Status) → IsUnplayed leads i e → NamesNoFault e
  unplayed_names_none i (status.ReadFault name) u = no_stop leads i (status.ReadFault name) refl u
  unplayed_names_none i (status.WriteFault name) u = no_stop leads i (status.WriteFault name) refl u
  unplayed_names_none i status.Done u = tt
  unplayed_names_none i status.Usage u = tt
  unplayed_names_none i (status.NotLegal entry) u = tt
  unplayed_names_none i (status.BadJournal line) u = tt
  unplayed_names_none i (status.TooLong name) u = tt
  unplayed_names_none i (status.BadTopology reason) u = tt
  unplayed_names_none i (status.BadScript line reason) u = tt
  unplayed_names_none i (status.BadCapture host e at) u = tt
  unplayed_names_none i (status.BadSection host e) u = tt
  unplayed_names_none i (status.ExpectFailed line) u = tt
  unplayed_names_none i (status.Refused line reason) u = tt
  unplayed_names_none i (status.StepsSpent line) u = tt
  unplayed_names_none i (status.JournalFull line) u = tt
  unplayed_names_none i status.OutOfMemory u = tt

module _ (play : Play) (capacity : List ℕ → Option ℕ) (held : List ℕ → Held) (i : Inputs) (p : Played) (to : IsPlayedTo play i p) (settled : Bool)
    (is : IsTrue settled ↔ play.rests p.fabric.world) where
  -- what was played is what there is room for
  pub room_for_run : (out : List ℕ) → HasRoomFor play capacity held i (texts_of play out i) → HaveRoom capacity held (texts_by out p settled)
  room_for_run out room =
      subst (λ s. HaveRoom capacity held s) (sym (texts_are play i p to settled out)) (room (is_played play i p to settled is))

  pub room_for_print : HasRoomFor play capacity held i (printed_of play i) → HaveRoom capacity held (printed_by p settled)
  room_for_print room =
      subst (λ s. HaveRoom capacity held s) (sym (printed_is play i p to settled)) (room (is_played play i p to settled is))
