-- The acts of a switch put frames behind those that wait, and leave hosts alone.
use Rattle.std.proofs.Common.{◌≡◌, ◌+◌, ℕ, Bool, true, false, if◌then◌else◌, set, List, [], ◌∷◌, ◌++◌, length, length-set, Option, Some, None, refl, ◌∙◌}
use Rattle.pl_pmac.specs.declared.pmac.Pmac.{Pmac}
use Rattle.pl_wiring.specs.Index.{port_index}
use Rattle.pl_wiring.specs.LiveLinks.{LivePorts}
use Rattle.pl_wiring.specs.Plan.{Plan}
use Rattle.pl_node.specs.declared.acts.Act.{Act}
use Rattle.pl_node.specs.declared.acts.Act.TheVariants as act
use Rattle.pl_node.specs.HostViews.{HostView}
use Rattle.pl_node.specs.SwitchViews.{SwitchView}
use Rattle.pl_journal.specs.declared.entry.Entry.{Entry}
use Rattle.pl_journal.specs.declared.entry.Entry.TheVariants.{Copied, Dropped, Taken}
use Rattle.pl_queues.specs.Queues.{items_at, put_at}
use Rattle.pl_world.specs.declared.item.Item.{Item}
use Rattle.pl_world.specs.declared.item.Item.TheVariants.{Control, Data}
use Rattle.pl_world.specs.declared.spoken_frame.SpokenFrame.{SpokenFrame}
use Rattle.pl_world.specs.declared.spoken_frame.SpokenFrame.TheVariants.{Over, Passed, Silent, Waiting}
use Rattle.pl_world.specs.declared.attachment.AttachmentPoint.{AttachmentPoint}
use Rattle.pl_world.specs.Changes.{begun_by, host_of, is_failed_at, sent_if_live, switch_no}
use Rattle.pl_world.specs.SwitchActs.{DuringActs, act_done, acts_done, begins, crossed_again, ended, granted, passed, redirected, switch_stepped}
use Rattle.pl_world.specs.Worlds.{WorldView}
use Rattle.pl_law_registration.proofs.Waiting.{Grows, grows_then, put_grows}

-- what the acts of a switch leave alone
pub record Rest : Type 0 where
  pub plan : Plan
  pub links : LivePorts
  pub attachments : List AttachmentPoint
  pub switches : List SwitchView
  pub hosts : List HostView
  pub from_hosts : List (List Item)
  pub heard : List (Option ℕ)

abbrev pub rest_of : WorldView → Rest
rest_of w = record { plan = w.plan; links = w.links; attachments = w.attachments; switches = w.switches; hosts = w.hosts; from_hosts = w.from_hosts; heard = w.heard }

-- what acts bring about
pub record Comes (before after : WorldView) : Type 0 where
  pub rest : rest_of after ≡ rest_of before
  pub grows : Grows before.out after.out
  pub many : length after.out ≡ length before.out

comes_then : (a b c : WorldView) → Comes a b → Comes b c → Comes a c
comes_then a b c first next = record { rest = next.rest ∙ first.rest; grows = grows_then a.out b.out c.out first.grows next.grows; many = next.many ∙ first.many }

-- nothing of this changes
quietly : (w new : WorldView) → rest_of new ≡ rest_of w → Grows w.out new.out → length new.out ≡ length w.out → Comes w new
quietly w new rest grows many = record { rest = rest; grows = grows; many = many }

stays_put : (w : WorldView) → Comes w w
stays_put w = quietly w w refl (λ i p h. h) refl

-- ---- an item goes out
sent_grows : (b : Bool) (out : List (List Item)) (n : ℕ) (item : Item) → Grows out (if b then out else put_at out n item)
sent_grows true out n item = λ i p is. is
sent_grows false out n item = put_grows out n item

sent_many : (b : Bool) (out : List (List Item)) (n : ℕ) (item : Item) → length (if b then out else put_at out n item) ≡ length out
sent_many true out n item = refl
sent_many false out n item = length-set out n (items_at out n ++ item ∷ [])

sends : (w : WorldView) (s port : ℕ) (item : Item) → Comes w (sent_if_live w s port item)
sends w s port item = record {
  rest = refl;
  grows = sent_grows (is_failed_at w s port) w.out (port_index w.plan.k s port) item;
  many = sent_many (is_failed_at w s port) w.out (port_index w.plan.k s port) item;
}

passes : (s : ℕ) (d : DuringActs) (port : ℕ) (frame : List ℕ) (speech : SpokenFrame) → Comes d.world (passed s d port frame speech).world
passes s d port frame Silent = stays_put d.world
passes s d port frame (Waiting id again) =
    let it = sends (crossed_again d.world s id again) s port (Data id frame) in record { rest = it.rest; grows = it.grows; many = it.many }
passes s d port frame (Passed id) =
    let it = sends (begun_by d.world (Copied id (d.world.begun + 1))) s port (Data (d.world.begun + 1) frame) in record { rest = it.rest; grows = it.grows; many = it.many }
passes s d port frame Over = stays_put d.world

redirects : (d : DuringActs) (old new : Pmac) (speech : SpokenFrame) → Comes d.world (redirected d old new speech).world
redirects d old new Silent = stays_put d.world
redirects d old new (Waiting id again) = record { rest = refl; grows = λ i p h. h; many = refl }
redirects d old new (Passed id) = stays_put d.world
redirects d old new Over = stays_put d.world

ends : (s : ℕ) (d : DuringActs) (end : ℕ → Entry) (speech : SpokenFrame) → Comes d.world (ended s d end speech).world
ends s d end Silent = stays_put d.world
ends s d end (Waiting id again) = record { rest = refl; grows = λ i p h. h; many = refl }
ends s d end (Passed id) = stays_put d.world
ends s d end Over = stays_put d.world

grants : (w : WorldView) (s : ℕ) (x : Pmac) (to : Option ℕ) → Comes w (granted w s x to)
grants w s x None = stays_put w
grants w s x (Some h) = record { rest = refl; grows = λ i p h. h; many = refl }

pub one_act : (s : ℕ) (d : DuringActs) (a : Act) → Comes d.world (act_done s d a).world
one_act s d (act.Control port frame) = sends d.world s port (Control frame)
one_act s d (act.Tell told) = record { rest = refl; grows = λ i p h. h; many = refl }
one_act s d (act.Grant x amac) = grants d.world s x (host_of d.world.plan amac)
one_act s d (act.Free x) = record { rest = refl; grows = λ i p h. h; many = refl }
one_act s d (act.Make frame) = record { rest = refl; grows = λ i p h. h; many = refl }
one_act s d (act.Redirect old new) = redirects d old new d.speech
one_act s d (act.Pass port frame) = passes s d port frame d.speech
one_act s d act.Take = ends s d (λ id. Taken id (switch_no s)) d.speech
one_act s d (act.Drop cause) = ends s d (λ id. Dropped id cause) d.speech

pub all_acts : (s : ℕ) (d : DuringActs) (acts : List Act) → Comes d.world (acts_done s d acts).world
all_acts s d [] = stays_put d.world
all_acts s d (a ∷ acts) = comes_then d.world (act_done s d a).world (acts_done s (act_done s d a) acts).world (one_act s d a) (all_acts s (act_done s d a) acts)

-- ---- a whole step of a switch
pub record Stepped (w new : WorldView) (switches : List SwitchView) : Type 0 where
  pub rest : rest_of new ≡ record (rest_of w) { switches = switches }
  pub grows : Grows w.out new.out

pub switch_steps : (w : WorldView) (s : ℕ) (before after : SwitchView) (speech : SpokenFrame) (acts : List Act) →
    Stepped w (switch_stepped w s before after speech acts) (set w.switches s after)
switch_steps w s before after speech acts =
    let done = all_acts s (begins (record w { switches = set w.switches s after }) speech) acts in
    record { rest = done.rest; grows = done.grows }
