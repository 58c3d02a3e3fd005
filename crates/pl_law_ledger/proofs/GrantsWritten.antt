-- What the acts of a switch write of addresses.
use Rattle.std.proofs.Common.{◌≡◌, ◌+◌, ℕ, Bool, true, false, if◌then◌else◌, set, List, [], ◌∷◌, ◌++◌, reverse, Option, Some, None, refl, sym, ap, ◌∙◌, append_assoc, append-nil}
use Rattle.std.proofs.lemmas.List.{reverse-append}
use Rattle.std.specs.List.{AllByRecursion}
use Rattle.pl_lemmas.proofs.Exports.{all_append}
use Rattle.pl_pmac.specs.declared.pmac.Pmac.{Pmac}
use Rattle.pl_node.specs.declared.acts.Act.{Act}
use Rattle.pl_node.specs.declared.acts.Act.TheVariants as act
use Rattle.pl_node.specs.ManagerViews.{Learnt}
use Rattle.pl_node.specs.SwitchViews.{SwitchView}
use Rattle.pl_journal.specs.declared.cause.Cause.{Cause}
use Rattle.pl_journal.specs.declared.cause.Cause.TheVariants.{LinkDown}
use Rattle.pl_journal.specs.declared.entry.Entry.{Entry}
use Rattle.pl_journal.specs.declared.entry.Entry.TheVariants.{Copied, Crossed, Dropped, Freed, Granted, Made, Placed, Redirected, Taken}
use Rattle.pl_layouts.specs.Placement.{same_place}
use Rattle.pl_wiring.specs.Plan.{Plan}
use Rattle.pl_world.specs.declared.item.Item.{Item}
use Rattle.pl_world.specs.declared.item.Item.TheVariants.{Control, Data}
use Rattle.pl_world.specs.declared.spoken_frame.SpokenFrame.{SpokenFrame}
use Rattle.pl_world.specs.declared.spoken_frame.SpokenFrame.TheVariants.{Over, Passed, Silent, Waiting}
use Rattle.pl_world.specs.declared.attachment.AttachmentPoint.{AttachmentPoint}
use Rattle.pl_world.specs.Changes.{all_noted, begun_by, ends_of, host_no, host_of, is_failed_at, noted, switch_no}
use Rattle.pl_world.specs.SwitchActs.{DuringActs, act_done, acts_done, begins, crossed_again, ended, granted, passed, redirected, switch_stepped, with_late}
use Rattle.pl_world.specs.Worlds.{WorldView}
use Rattle.pl_law_ledger.specs.Ledgers.{ledger}
use Rattle.pl_law_ledger.proofs.Giving.{FreesNone, Giving, givings}

-- ---- entries that say nothing of addresses
abbrev pub IsNoGrantEntry : Entry → Type 0
IsNoGrantEntry e = (past : List Entry) → ledger (e ∷ past) ≡ ledger past

abbrev pub AreNoGrantEntries : List Entry → Type 0
AreNoGrantEntries entries = AllByRecursion IsNoGrantEntry entries

abbrev pub written : List Entry → List Entry
written journal = ledger (reverse journal)

pub one_written : (journal : List Entry) (e : Entry) → written (journal ++ e ∷ []) ≡ ledger (e ∷ reverse journal)
one_written journal e = ap ledger (reverse-append journal (e ∷ []))

pub quiet_written : (journal entries : List Entry) → AreNoGrantEntries entries → written (journal ++ entries) ≡ written journal
quiet_written journal [] quiet = ap written (append-nil journal)
quiet_written journal (e ∷ entries) quiet =
    ap written (sym (append_assoc journal (e ∷ []) entries)) ∙ quiet_written (journal ++ e ∷ []) entries quiet.1 ∙ one_written journal e ∙ quiet.0
    (reverse journal)

pub quiet_if : (b : Bool) (xs ys : List Entry) → AreNoGrantEntries xs → AreNoGrantEntries ys → AreNoGrantEntries (if b then xs else ys)
quiet_if true xs ys a b = a
quiet_if false xs ys a b = b

pub quiet_ends : (c : Cause) (items : List Item) → AreNoGrantEntries (ends_of c items)
quiet_ends c [] = tt
quiet_ends c (Control frame ∷ items) = quiet_ends c items
quiet_ends c (Data id frame ∷ items) = ((λ past. refl), quiet_ends c items)

-- ---- what addresses stand on
pub record Parts : Type 0 where
  pub plan : Plan
  pub learnt : Learnt
  pub switches : List SwitchView
  pub attachments : List AttachmentPoint
  pub entries : List Entry

abbrev pub parts_of : WorldView → Parts
parts_of w = record { plan = w.plan; learnt = w.manager.learnt; switches = w.switches; attachments = w.attachments; entries = written w.journal }

pub quiet_parts : (w : WorldView) (entries : List Entry) → AreNoGrantEntries entries → parts_of (all_noted w entries) ≡ parts_of w
quiet_parts w entries quiet = ap (λ es. let p : Parts = record (parts_of w) { entries = es } in p) (quiet_written w.journal entries quiet)

pub one_quiet : (w : WorldView) (e : Entry) → IsNoGrantEntry e → parts_of (noted w e) ≡ parts_of w
one_quiet w e quiet = quiet_parts w (e ∷ []) (quiet, tt)

-- an address is granted to the host of an actual address
abbrev pub entry_for : ℕ → List Entry → Pmac → Option ℕ → List Entry
entry_for s entries x None = entries
entry_for s entries x (Some h) = Granted x (host_no h) (switch_no s) x.port ∷ entries

abbrev pub all_written : Plan → ℕ → List Entry → List Giving → List Entry
all_written plan s entries [] = entries
all_written plan s entries (g ∷ gs) = all_written plan s (entry_for s entries g.pmac (host_of plan g.mac)) gs

-- and what acts write: what they grant, and what they free
abbrev pub all_entered : Plan → ℕ → List Entry → List Act → List Entry
all_entered plan s entries [] = entries
all_entered plan s entries (act.Grant x mac ∷ acts) = all_entered plan s (entry_for s entries x (host_of plan mac)) acts
all_entered plan s entries (act.Free x ∷ acts) = all_entered plan s (Freed x ∷ entries) acts
all_entered plan s entries (act ∷ acts) = all_entered plan s entries acts

pub none_freed : (plan : Plan) (s : ℕ) (entries : List Entry) (acts : List Act) → AllByRecursion FreesNone acts →
    all_entered plan s entries acts ≡ all_written plan s entries (givings acts)
none_freed plan s entries [] none = refl
none_freed plan s entries (act.Grant x mac ∷ acts) none = none_freed plan s (entry_for s entries x (host_of plan mac)) acts none.1
none_freed plan s entries (act.Free x ∷ acts) none = absurd none.0
none_freed plan s entries (a ∷ acts) none = none_freed plan s entries acts none.1

abbrev with_acts : ℕ → Parts → List Act → Parts
with_acts s p acts = record p { entries = all_entered p.plan s p.entries acts }

grant_parts : (w : WorldView) (s : ℕ) (x : Pmac) (h : Option ℕ) →
    parts_of (granted w s x h) ≡ record (parts_of w) { entries = entry_for s (written w.journal) x h }
grant_parts w s x None = refl
grant_parts w s x (Some h) = ap (λ es. let p : Parts = record (parts_of w) { entries = es } in p)
    (one_written w.journal (Granted x (host_no h) (switch_no s) x.port))

again_parts : (w : WorldView) (s id : ℕ) (again : Bool) → parts_of (crossed_again w s id again) ≡ parts_of w
again_parts w s id again = quiet_parts w (if again then Crossed id (switch_no s) ∷ [] else [])
    (quiet_if again (Crossed id (switch_no s) ∷ []) [] ((λ past. refl), tt) tt)

redirect_parts : (d : DuringActs) (old new : Pmac) (speech : SpokenFrame) → parts_of (redirected d old new speech).world ≡ parts_of d.world
redirect_parts d old new Silent = refl
redirect_parts d old new (Waiting id again) = one_quiet d.world (Redirected id old new) (λ past. refl)
redirect_parts d old new (Passed id) = refl
redirect_parts d old new Over = refl

pass_parts : (s : ℕ) (d : DuringActs) (port : ℕ) (frame : List ℕ) (speech : SpokenFrame) → parts_of (passed s d port frame speech).world ≡ parts_of d.world
pass_parts s d port frame Silent = refl
pass_parts s d port frame (Waiting id again) = again_parts d.world s id again
pass_parts s d port frame (Passed id) = one_quiet d.world (Copied id (d.world.begun + 1)) (λ past. refl)
pass_parts s d port frame Over = refl

end_parts : (s : ℕ) (d : DuringActs) (end : ℕ → Entry) (speech : SpokenFrame) → ((id : ℕ) → IsNoGrantEntry (end id)) →
    parts_of (ended s d end speech).world ≡ parts_of d.world
end_parts s d end Silent quiet = refl
end_parts s d end (Waiting id again) quiet = one_quiet (crossed_again d.world s id again) (end id) (quiet id) ∙ again_parts d.world s id again
end_parts s d end (Passed id) quiet = refl
end_parts s d end Over quiet = refl

-- what is written behind the last copy
late_quiet : (b : Bool) (late : List Entry) (id : ℕ) → AreNoGrantEntries late → AreNoGrantEntries (if b then late ++ Dropped id LinkDown ∷ [] else late)
late_quiet b late id quiet = quiet_if b (late ++ Dropped id LinkDown ∷ []) late
    (all_append IsNoGrantEntry late (Dropped id LinkDown ∷ []) quiet ((λ past. refl), tt)) quiet

redirect_late : (d : DuringActs) (old new : Pmac) (speech : SpokenFrame) → AreNoGrantEntries d.late → AreNoGrantEntries (redirected d old new speech).late
redirect_late d old new Silent quiet = quiet
redirect_late d old new (Waiting id again) quiet = quiet
redirect_late d old new (Passed id) quiet = quiet
redirect_late d old new Over quiet = quiet

pass_late : (s : ℕ) (d : DuringActs) (port : ℕ) (frame : List ℕ) (speech : SpokenFrame) → AreNoGrantEntries d.late →
    AreNoGrantEntries (passed s d port frame speech).late
pass_late s d port frame Silent quiet = quiet
pass_late s d port frame (Waiting id again) quiet = late_quiet (is_failed_at d.world s port) d.late id quiet
pass_late s d port frame (Passed id) quiet = late_quiet (is_failed_at d.world s port) d.late (d.world.begun + 1) quiet
pass_late s d port frame Over quiet = quiet

end_late : (s : ℕ) (d : DuringActs) (end : ℕ → Entry) (speech : SpokenFrame) → AreNoGrantEntries d.late → AreNoGrantEntries (ended s d end speech).late
end_late s d end Silent quiet = quiet
end_late s d end (Waiting id again) quiet = quiet
end_late s d end (Passed id) quiet = quiet
end_late s d end Over quiet = quiet

record Done (s : ℕ) (d : DuringActs) (acts : List Act) : Type 0 where
  parts : parts_of (acts_done s d acts).world ≡ with_acts s (parts_of d.world) acts
  late : AreNoGrantEntries (acts_done s d acts).late

-- a first act that changes nothing here
done_first : (s : ℕ) (d : DuringActs) (a : Act) (acts : List Act) → parts_of (act_done s d a).world ≡ parts_of d.world →
    ((p : Parts) → with_acts s p (a ∷ acts) ≡ with_acts s p acts) → Done s (act_done s d a) acts → Done s d (a ∷ acts)
done_first s d a acts same silent rest = record {
  parts = rest.parts ∙ ap (λ (p : Parts). with_acts s p acts) same ∙ sym (silent (parts_of d.world));
  late = rest.late;
}

acts_parts : (s : ℕ) (d : DuringActs) (acts : List Act) → AreNoGrantEntries d.late → Done s d acts
acts_parts s d [] quiet = record { parts = refl; late = quiet }
acts_parts s d (act.Tell told ∷ acts) quiet = let rest = acts_parts s
    (act_done s d (act.Tell told)) acts quiet in record { parts = rest.parts; late = rest.late }
acts_parts s d (act.Control port frame ∷ acts) quiet =
    done_first s d (act.Control port frame) acts refl (λ p. refl) (acts_parts s (act_done s d (act.Control port frame)) acts quiet)
acts_parts s d (act.Grant x mac ∷ acts) quiet =
    let rest = acts_parts s (act_done s d (act.Grant x mac)) acts quiet in
    let now : parts_of (act_done s d (act.Grant x mac)).world ≡ record
    (parts_of d.world) { entries = entry_for s (written d.world.journal) x (host_of d.world.plan mac) } =
    grant_parts d.world s x (host_of d.world.plan mac) in
    record { parts = rest.parts ∙ ap (λ (p : Parts). with_acts s p acts) now; late = rest.late }
acts_parts s d (act.Free x ∷ acts) quiet =
    let rest = acts_parts s (act_done s d (act.Free x)) acts quiet in
    let now : parts_of (act_done s d (act.Free x)).world ≡ record (parts_of d.world) { entries = Freed x ∷ written d.world.journal } =
    ap (λ es. let p : Parts = record (parts_of d.world) { entries = es } in p) (one_written d.world.journal (Freed x)) in
    record { parts = rest.parts ∙ ap (λ (p : Parts). with_acts s p acts) now; late = rest.late }
acts_parts s d (act.Make frame ∷ acts) quiet =
    done_first s d (act.Make frame) acts
    (one_quiet (begun_by (with_late d) (Made (d.world.begun + 1) (switch_no s) frame)) (Crossed (d.world.begun + 1) (switch_no s)) (λ past. refl)
    ∙ one_quiet (with_late d) (Made (d.world.begun + 1) (switch_no s) frame) (λ past. refl) ∙ quiet_parts d.world d.late quiet)
    (λ p. refl) (acts_parts s (act_done s d (act.Make frame)) acts tt)
acts_parts s d (act.Redirect old new ∷ acts) quiet =
    done_first s d (act.Redirect old new) acts (redirect_parts d old new d.speech) (λ p. refl)
    (acts_parts s (act_done s d (act.Redirect old new)) acts (redirect_late d old new d.speech quiet))
acts_parts s d (act.Pass port frame ∷ acts) quiet =
    done_first s d (act.Pass port frame) acts (pass_parts s d port frame d.speech) (λ p. refl)
    (acts_parts s (act_done s d (act.Pass port frame)) acts (pass_late s d port frame d.speech quiet))
acts_parts s d (act.Take ∷ acts) quiet =
    done_first s d act.Take acts (end_parts s d (λ id. Taken id (switch_no s)) d.speech (λ id past. refl)) (λ p. refl)
    (acts_parts s (act_done s d act.Take) acts (end_late s d (λ id. Taken id (switch_no s)) d.speech quiet))
acts_parts s d (act.Drop cause ∷ acts) quiet =
    done_first s d (act.Drop cause) acts (end_parts s d (λ id. Dropped id cause) d.speech (λ id past. refl)) (λ p. refl)
    (acts_parts s (act_done s d (act.Drop cause)) acts (end_late s d (λ id. Dropped id cause) d.speech quiet))

-- a step of a switch changes its view, and writes of addresses what its acts grant and free
pub stepped_parts : (w : WorldView) (s : ℕ) (before after : SwitchView) (speech : SpokenFrame) (acts : List Act) →
    parts_of (switch_stepped w s before after speech acts)
    ≡ record (parts_of w) { switches = set w.switches s after; entries = all_entered w.plan s (written w.journal) acts }
stepped_parts w s before after speech acts =
    let d = begins (record w { switches = set w.switches s after }) speech in
    let done = acts_parts s d acts tt in
    let placed = if same_place before.place after.place then [] else Placed (switch_no s) after.place ∷ [] in
    quiet_parts (with_late (acts_done s d acts)) placed (quiet_if (same_place before.place after.place) [] (Placed (switch_no s) after.place ∷ []) tt
    ((λ past. refl), tt))
    ∙ quiet_parts (acts_done s d acts).world (acts_done s d acts).late done.late ∙ done.parts
