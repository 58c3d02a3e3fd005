-- What a run on the fabric saved is found legal.
use Rattle.std.proofs.Common.{◌≡◌, ◌≢◌, ℕ, ◌<◌, ◌≤◌, All, if◌then◌else◌, List, [], ◌∷◌, ◌++◌, codes, length, refl, sym, ap, subst, ◌∙◌, arith}
use Rattle.std.proofs.lemmas.Bool.{false_from_ne_true}
use Rattle.std.proofs.lemmas.List.Elements.{All-tail, All-head}
use Rattle.std.proofs.lemmas.Slice.Eq.{bytes_eq-Decides}
use Rattle.pl_shelf.specs.Held.{Held, HoldsExactly, IsLonger, ShelfMoment, created, emptied, standard_output, with_end}
use Rattle.pl_shelf.specs.Held.Held.{absent, holds, unknown}
use Rattle.pl_wiring.specs.Plan.{Plan}
use Rattle.pl_journal.specs.Ranges.{Fits}
use Rattle.pl_journal.specs.Savable.{IsSavable}
use Rattle.pl_journal.specs.Lossy.{GoodTrail, Run}
use Rattle.pl_journal.specs.Text.{journal_text}
use Rattle.pl_journal.specs.declared.entry.Entry.{Entry}
use Rattle.pl_verdict.specs.Verdicts.{IsLegal}
use Rattle.pl_inputs.specs.declared.status.Status.{Status}
use Rattle.pl_inputs.specs.declared.status.Status.TheVariants as status
use Rattle.pl_inputs.specs.declared.words.Network.{Network}
use Rattle.pl_inputs.specs.declared.words.Network.TheVariants.{Bridges, Fabric}
use Rattle.pl_inputs.specs.Inputs.{HasPlan, Inputs, journal_limit}
use Rattle.pl_inputs.specs.Words.{Asked}
use Rattle.pl_output.specs.Receipts.{captures_from, journal_name, saved_texts}
use Rattle.pl_output.specs.Saved.{IsSavedWhole, Saving, once_saved}
use Rattle.pl_output.proofs.Exports.{no_output}
use Rattle.pl_playing.specs.Outcomes.{summary_of}
use Rattle.pl_run.specs.Complete.{AnswersButForMemory, IsCompleteVerify, NoFaults}
use Rattle.pl_run.specs.Fabric.{Comes, IsPlayed, fits_of, texts_of}
use Rattle.pl_run.specs.Laws.{HasSaved}

-- a journal that is a run with good trails, and of which each entry can be saved and fits its types, is legal
abbrev pub SavedIsLegal : Type 0
SavedIsLegal = (plan : Plan) (journal : List Entry) → Run plan journal → GoodTrail plan journal → All (IsSavable plan) journal → All Fits journal →
    IsLegal plan (journal_text plan journal) (length journal)

pub is_legal : SavedIsLegal → (i : Inputs) (is : IsPlayed Fabric i) → fits_of Fabric i is →
    IsLegal i.plan (journal_text i.plan is.scene.world.journal) (length is.scene.world.journal)
is_legal law i is are =
    let one = is.known.one_switch in
    let journal = is.scene.world.journal in
    law i.plan journal (subst (λ (p : Plan). Run p journal) is.wiring one.run) (subst (λ (p : Plan). GoodTrail p journal) is.wiring one.trails) are.savable are.fits

-- the journal stands behind the captures
behind : (P : Saving → Type 0) (xs : List Saving) (y : Saving) (ys : List Saving) → All P (xs ++ y ∷ ys) → P y
behind P [] y ys all = All-head P y ys all
behind P (x ∷ xs) y ys all = behind P xs y ys (All-tail P x (xs ++ y ∷ ys) all)

module _ (old new : List ℕ → Held) (out : List ℕ) (plan : Plan) (journal : List Entry) (summary : List ℕ) where
  its_saving : Saving
  its_saving = record { name = journal_name out; text = journal_text plan journal }

  saved_there : All (IsSavedWhole old new) (saved_texts out plan journal summary) → IsSavedWhole old new (record { name = journal_name out; text = journal_text plan journal })
  unfolding saved_texts
  saved_there all = behind (IsSavedWhole old new) (captures_from 0 out journal plan.hosts) (record { name = journal_name out; text = journal_text plan journal })
      (record { name = standard_output; text = summary } ∷ []) all

-- what a file that is no standard output holds, once a text was saved under its name
holds_it : (held : Held) (text : List ℕ) → HoldsExactly (with_end (emptied held) text) text
holds_it unknown text = tt
holds_it absent text = refl
holds_it (holds bytes) text = refl

created_empty : (name : List ℕ) (held : Held) → name ≢ standard_output → created name held ≡ emptied held
created_empty name held file =
    ap (λ b. if b then held else emptied held) (false_from_ne_true _ (λ same. file ((bytes_eq-Decides name standard_output).0 same)))

saved_holds : (name : List ℕ) (held : Held) (text : List ℕ) → name ≢ standard_output → HoldsExactly (once_saved name held text) text
saved_holds name held text file = subst (λ h. HoldsExactly (with_end h text) text) (sym (created_empty name held file)) (holds_it held text)

within_limit : (held : Held) (bytes text : List ℕ) → held ≡ holds bytes → HoldsExactly held text → (IsLonger held journal_limit → ⊥) → length text ≤ journal_limit
within_limit held bytes text is exact short =
    let same : text ≡ bytes = subst (λ h. HoldsExactly h text) is exact in
    let not : (journal_limit < length bytes) → ⊥ = λ longer. short (subst (λ h. IsLonger h journal_limit) (sym is) longer) in
    subst (λ t. length t ≤ journal_limit) (sym same) (omega (arith, not))

plan_stays : (old new : List ℕ → Held) (name : List ℕ) (plan : Plan) → new name ≡ old name → HasPlan old name plan → HasPlan new name plan
plan_stays old new name plan same has =
    (has.0, record { whole = subst (λ h. HoldsExactly h has.0) (sym same) has.1.whole; within = has.1.within }, has.2)

module _ (law : SavedIsLegal) (old between new : ShelfMoment) (asked : Asked) (result : Status) (saved : HasSaved old between asked) (none : NoFaults between new)
    (complete : IsCompleteVerify between new asked.topology (journal_name asked.out) result) where
  by_network : (network : Network) → network ≡ Fabric → (i : Inputs) → HasPlan old.held asked.topology i.plan →
      Comes network old between i (fits_of network i) (texts_of network asked.out i) status.Done → AnswersButForMemory result status.Done
  by_network Bridges is i read comes = absurd (cc)
  by_network Fabric is i read comes =
      let played = comes.0 in
      let name = journal_name asked.out in
      let journal = played.scene.world.journal in
      let text = journal_text i.plan journal in
      let file = no_output asked.out (codes "journal.txt") (omega arith) in
      let there = saved_there old.held between.held asked.out i.plan journal (summary_of i played.scene played.settled) comes.1.saved.whole in
      let exact : HoldsExactly (between.held name) text =
      subst (λ h. HoldsExactly h text) (sym there) (saved_holds name (old.held name) text file) in
      complete.legal (length journal) i.plan text
      (saved.told.0, saved.topology ∙ saved.told.1) saved.shown (plan_stays old.held between.held asked.topology i.plan saved.topology read)
      (record { whole = exact; within = within_limit (between.held name) saved.shown.0 text saved.shown.1 exact saved.short })
      (is_legal law i played comes.2) none

  pub is_verified : AnswersButForMemory result status.Done
  is_verified = by_network asked.network saved.fabric saved.done.0 saved.done.1.topology saved.done.2
