-- The manager hears a switch, and numbers addresses; it begins anew.
use Rattle.std.proofs.Common.{◌≡◌, ℕ, ◌+◌, List, [], ◌∷◌, ◌++◌, Option, None, Some, reverse, set, refl, sym, ◌∙◌, ap, subst}
use Rattle.std.specs.List.{fold, position}
use Rattle.std.proofs.Math.ListN.{length-set}
use Rattle.pl_layouts.specs.Equality.{same_switch}
use Rattle.pl_journal.specs.declared.entry.Entry.{Entry}
use Rattle.pl_journal.specs.declared.entry.Entry.TheVariants.{Registered, Restarted}
use Rattle.pl_journal.specs.Lossy.{Needs}
use Rattle.pl_node.specs.declared.acts.ManagerAct.{ManagerAct}
use Rattle.pl_node.specs.declared.acts.ManagerAct.TheVariants.{Number, Say}
use Rattle.pl_node.specs.declared.messages.ToManager.{ToManager}
use Rattle.pl_node.specs.declared.messages.ToSwitch.{ToSwitch}
use Rattle.pl_node.specs.ManagerDuties.{ManagerRule}
use Rattle.pl_wiring.specs.Plan.{Plan}
use Rattle.pl_world.specs.Changes.{said_to}
use Rattle.pl_world.specs.Flying.{IsCounted}
use Rattle.pl_world.specs.OtherActs.{manager_act_done}
use Rattle.pl_world.specs.Restarting.{CountsRestarts, manager_restarted}
use Rattle.pl_world.specs.WorldRule.{ManagerTurn}
use Rattle.pl_world.specs.Worlds.{WorldView}
use Rattle.pl_world.proofs.Exports.{noted_owes, said_sound, Sound, sound, told_rest}
use Rattle.pl_law_flights.specs.Given.{NumbersWell}
use Rattle.pl_law_flights.specs.OnTheWay.{IsJournaled, JournalSays, place_in}
use Rattle.pl_law_flights.proofs.Counting.{counts, nobody}
use Rattle.pl_law_flights.proofs.KeepingFlights.{kept}
use Rattle.pl_law_flights.proofs.EntriesOfFlights.{note, reverse_noted}

said_journaled : (w : WorldView) (says : ToSwitch) (to : Option ℕ) → IsJournaled w → IsJournaled (said_to w says to)
said_journaled w says None told = told
said_journaled w says (Some s) told = told

said_journal : (w : WorldView) (says : ToSwitch) (to : Option ℕ) → ((said_to w says to).journal ≡ w.journal) × ((said_to w says to).plan ≡ w.plan)
said_journal w says None = (refl, refl)
said_journal w says (Some s) = (refl, refl)

numbers_journaled : (acts : List ManagerAct) (w : WorldView) (plan : Plan) (past : List Entry) → w.plan ≡ plan → reverse w.journal ≡ past → NumbersWell plan past acts →
    Sound w → IsJournaled w → IsJournaled (fold manager_act_done w acts)
numbers_journaled [] w plan past same is well so told = told
numbers_journaled (Say to says ∷ acts) w plan past same is well so told =
    let there : Option ℕ = position (same_switch to) w.plan.ids in
    let stays = said_journal w says there in
    numbers_journaled acts (said_to w says there) plan past (stays.1 ∙ same) (ap reverse stays.0 ∙ is) well (said_sound w says there so) (said_journaled w says there told)
numbers_journaled (Number pmac n ∷ acts) w plan past same is well so told =
    let e : Entry = Registered pmac n in
    let needs : Needs w.plan (reverse w.journal) e = subst (λ p. Needs w.plan p e) (sym is) (subst (λ q. Needs q past e) (sym same) well.0) in
    let t = note w.plan (place_in w.switches) (reverse w.journal) w.links w.attachments w.from_hosts w.out e 0
    (nobody (reverse w.journal) w.from_hosts w.out (λ i. 0) (counts w (reverse w.journal) (λ i. 0) refl so.balance))
    (λ g other. kept w.plan (reverse w.journal) e g tt) (record { there = λ x at is. is }) needs tt told.links_agree told.attachments_agree told in
    numbers_journaled acts (record w { journal = w.journal ++ e ∷ [] }) plan (e ∷ past) same (reverse_noted w.journal past e is) well.1
    (record { balance = noted_owes w (λ i. 0) (λ i. 0) (e ∷ []) refl (λ i. refl) so.balance; rest = so.rest })
    (subst (λ p. JournalSays w.plan (place_in w.switches) p w.links w.attachments w.from_hosts w.out) (sym (reverse_noted w.journal (reverse w.journal) e refl)) t)

-- the manager hears a switch
pub manager_journaled : (rule : ManagerRule) (w : WorldView) (s : ℕ) (says : ToManager) (items : List ToManager) (new : WorldView) → IsCounted w → IsJournaled w →
    (turn : ManagerTurn rule (record w { to_manager = set w.to_manager s items }) s says new) → NumbersWell w.plan (reverse w.journal) turn.acts → IsJournaled new
manager_journaled rule w s says items new counted told turn well =
    let so = sound w counted in
    subst IsJournaled (sym turn.changed)
    (numbers_journaled turn.acts (record w { to_manager = set w.to_manager s items; manager = turn.after }) w.plan (reverse w.journal) refl refl well
    (record { balance = so.balance; rest = told_rest w.to_manager _ (length-set w.to_manager s _) so.rest }) told)

-- it begins anew, and says the next number
pub anew_journaled : (w : WorldView) → IsCounted w → IsJournaled w → CountsRestarts w → IsJournaled (manager_restarted w)
anew_journaled w counted told epochs =
    let so = sound w counted in
    let n : ℕ = w.manager.epoch + 1 in
    let e : Entry = Restarted n in
    let past : List Entry = reverse w.journal in
    let needs : Needs w.plan past e = ap (λ m. m + 1) epochs in
    let t = note w.plan (place_in w.switches) past w.links w.attachments w.from_hosts w.out e 0
    (nobody past w.from_hosts w.out (λ i. 0) (counts w past (λ i. 0) refl so.balance))
    (λ g other. kept w.plan past e g tt) (record { there = λ x at is. is }) needs tt told.links_agree told.attachments_agree told in
    subst (λ p. JournalSays w.plan (place_in w.switches) p w.links w.attachments w.from_hosts w.out) (sym (reverse_noted w.journal past e refl)) t
