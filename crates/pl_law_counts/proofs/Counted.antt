-- What the acts of a switch do to the count: it owes at each target what they may still let go there.
use Rattle.std.proofs.Common.{◌≡◌, ℕ, ◌+◌, ◌≤◌, ◌<◌, ◌==◌, Bool, false, if◌then◌else◌, List, [], ◌∷◌, reverse, ap, arith}
use Rattle.pl_wiring.specs.Index.{port_index}
use Rattle.pl_wiring.specs.Plan.{Plan}
use Rattle.pl_journal.specs.declared.entry.Entry.{Entry}
use Rattle.pl_journal.specs.declared.entry.Entry.TheVariants.{Copied, Crossed, Made}
use Rattle.pl_node.specs.declared.acts.Act.{Act}
use Rattle.pl_node.specs.declared.acts.Act.TheVariants as act
use Rattle.pl_world.specs.declared.item.Item.TheVariants.{Control, Data}
use Rattle.pl_world.specs.declared.spoken_frame.SpokenFrame.{SpokenFrame}
use Rattle.pl_world.specs.declared.spoken_frame.SpokenFrame.TheVariants.{Over, Passed, Silent, Waiting}
use Rattle.pl_world.specs.Changes.{begun_by, noted, sent_out, switch_no}
use Rattle.pl_world.specs.Worlds.{WorldView}
use Rattle.pl_law_counts.specs.Counting.{ComesOnceTo, OnceIn, Targets}
use Rattle.pl_law_counts.proofs.Acts.{IsNew, IsNoMake}
use Rattle.pl_law_counts.proofs.Changes.{begin_with, claim, copied_root, copy_one, IsPlain, note, of_root, of_root_less, of_root_sum, plain_root, put_control, put_out, root_kept, weaker}

-- how many of the frame in hand the acts let go to a target, until they speak of another
abbrev pub used : {T : Type 0} → (Plan → ℕ → ℕ → T → List ℕ → Bool) → Plan → ℕ → T → List Act → ℕ
used may_come plan s there [] = 0
used may_come plan s there (act.Pass port frame ∷ acts) = claim may_come plan s port there frame + used may_come plan s there acts
used may_come plan s there (act.Make frame ∷ acts) = 0
used may_come plan s there (a ∷ acts) = used may_come plan s there acts

abbrev pub in_hand : {T : Type 0} → (Plan → ℕ → ℕ → T → List ℕ → Bool) → Plan → ℕ → List Act → SpokenFrame → List Entry → ℕ → T → ℕ
in_hand may_come plan s acts Silent past r there = 0
in_hand may_come plan s acts (Waiting id again) past r there = of_root past id (used may_come plan s there acts) r
in_hand may_come plan s acts (Passed id) past r there = of_root past id (used may_come plan s there acts) r
in_hand may_come plan s acts Over past r there = 0

module _ {T : Type 0} (targets : Targets T) (s : ℕ) where
  abbrev pub OnceAmid : List Act → SpokenFrame → WorldView → Type 0
  OnceAmid acts speech w = OnceIn targets w (in_hand targets.may_come w.plan s acts speech (reverse w.journal))

  used_less : (plan : Plan) (there : T) (a : Act) (acts : List Act) → IsNoMake a → used targets.may_come plan s there acts ≤ used targets.may_come plan s there (a ∷ acts)
  used_less plan there (act.Make frame) acts none = absurd none
  used_less plan there (act.Pass port frame) acts none = omega arith
  used_less plan there a acts none = omega arith

  module _ (w : WorldView) where
    abbrev past : List Entry
    past = reverse w.journal

    abbrev using : List Act → T → ℕ
    using acts there = used targets.may_come w.plan s there acts

    pub once_by : (a : Act) (acts : List Act) (speech : SpokenFrame) → IsNoMake a → OnceAmid (a ∷ acts) speech w → OnceAmid acts speech w
    once_by a acts Silent none c = c
    once_by a acts (Waiting id b) none c = weaker targets w _ _ (λ r there. of_root_less past id (using acts there) (using (a ∷ acts) there) r (used_less w.plan there a acts none)) c
    once_by a acts (Passed id) none c = weaker targets w _ _ (λ r there. of_root_less past id (using acts there) (using (a ∷ acts) there) r (used_less w.plan there a acts none)) c
    once_by a acts Over none c = c

    pub once_over : (acts : List Act) (speech : SpokenFrame) → OnceAmid acts speech w → ComesOnceTo targets w
    once_over acts speech c = weaker targets w _ (λ r there. 0) (λ r there. omega arith) c

    -- an entry with which nothing comes
    pub once_noted : (acts : List Act) (speech : SpokenFrame) (e : Entry) → IsPlain e →
        ((r : ℕ) (there : T) → targets.came w.plan (e ∷ past) r there ≤ targets.came w.plan past r there) → OnceAmid acts speech w → OnceAmid acts speech (noted w e)
    once_noted acts speech e plain same c =
        note targets w e _ (in_hand targets.may_come w.plan s acts speech) plain (λ r there. let owes = held speech r there in omega (arith, owes, same r there)) c
      where
        held : (speech : SpokenFrame) (r : ℕ) (there : T) → in_hand targets.may_come w.plan s acts speech (e ∷ past) r there ≡ in_hand targets.may_come w.plan s acts speech past r there
        held Silent r there = omega arith
        held (Waiting id b) r there = ap (λ n. if◌then◌else◌ {A = ℕ} (n == r) (using acts there) 0) (plain_root past e plain id)
        held (Passed id) r there = ap (λ n. if◌then◌else◌ {A = ℕ} (n == r) (using acts there) 0) (plain_root past e plain id)
        held Over r there = omega arith

    pub once_control : (port : ℕ) (frame : List ℕ) (acts : List Act) (speech : SpokenFrame) → OnceAmid (act.Control port frame ∷ acts) speech w →
        OnceAmid acts speech (sent_out w s port (Control frame))
    once_control port frame acts speech c = put_control targets w _ (port_index w.plan.k s port) frame (once_by (act.Control port frame) acts speech tt c)

    -- the frame in hand leaves by a port
    pub once_passed : (port : ℕ) (frame : List ℕ) (acts : List Act) (id : ℕ) → port < w.plan.k → OnceAmid (act.Pass port frame ∷ acts) (Waiting id false) w →
        OnceAmid acts (Passed id) (sent_out w s port (Data id frame))
    once_passed port frame acts id within c =
        put_out targets w _ s port id frame within
        (weaker targets w _ _ (λ r there. omega (arith, of_root_sum past id (claim targets.may_come w.plan s port there frame) (using acts there) r)) c)

    -- so does a copy of it, which has its root
    pub once_copied : (port : ℕ) (frame : List ℕ) (acts : List Act) (id : ℕ) → port < w.plan.k → IsNew w →
        ((r : ℕ) (there : T) → targets.came w.plan (Copied id (w.begun + 1) ∷ past) r there ≤ targets.came w.plan past r there) → OnceAmid (act.Pass port frame ∷ acts) (Passed id) w →
        OnceAmid acts (Passed id) (sent_out (begun_by w (Copied id (w.begun + 1))) s port (Data (w.begun + 1) frame))
    once_copied port frame acts id within new same c =
        let n : ℕ = w.begun + 1 in
        let now : List Entry = Copied id n ∷ past in
        let one : T → ℕ = λ there. claim targets.may_come w.plan s port there frame in
        put_out targets (begun_by w (Copied id n)) _ s port n frame within
        (copy_one targets w id _ (λ p r there. of_root p n (one there) r + of_root p id (using acts there) r) new.at_hosts new.at_ports
        (λ r there.
        let copy : of_root now n (one there) r ≡ of_root past id (one there) r = ap (λ x. if◌then◌else◌ {A = ℕ} (x == r) (one there) 0) (copied_root past id n) in
        let rest : of_root now id (using acts there) r ≡ of_root past id (using acts there) r = ap (λ x. if◌then◌else◌ {A = ℕ} (x == r) (using acts there) 0) (root_kept past id n) in
        omega (arith, of_root_sum past id (one there) (using acts there) r, copy, rest, same r there))
        c)

    pub once_unsent : (port : ℕ) (frame : List ℕ) (acts : List Act) (id : ℕ) → IsNew w →
        ((r : ℕ) (there : T) → targets.came w.plan (Copied id (w.begun + 1) ∷ past) r there ≤ targets.came w.plan past r there) → OnceAmid (act.Pass port frame ∷ acts) (Passed id) w →
        OnceAmid acts (Passed id) (begun_by w (Copied id (w.begun + 1)))
    once_unsent port frame acts id new same c =
        copy_one targets w id _ (in_hand targets.may_come w.plan s acts (Passed id)) new.at_hosts new.at_ports
        (λ r there.
        let rest : of_root (Copied id (w.begun + 1) ∷ past) id (using acts there) r ≡ of_root past id (using acts there) r =
        ap (λ x. if◌then◌else◌ {A = ℕ} (x == r) (using acts there) 0) (root_kept past id (w.begun + 1)) in
        omega (arith, rest, same r there))
        (once_by (act.Pass port frame) acts (Passed id) tt c)

  -- the switch makes a frame, of which it lets at most one come to each target
  pub once_made : (w : WorldView) (frame : List ℕ) (acts : List Act) (speech : SpokenFrame) → ((there : T) → used targets.may_come w.plan s there acts ≤ 1) →
      ((past : List Entry) (id r : ℕ) (there : T) → targets.came w.plan (Made id (switch_no s) frame ∷ past) r there ≤ targets.came w.plan past r there) →
      ((past : List Entry) (id r : ℕ) (there : T) → targets.came w.plan (Crossed id (switch_no s) ∷ past) r there ≤ targets.came w.plan past r there) →
      OnceAmid (act.Make frame ∷ acts) speech w →
      OnceAmid acts (Waiting (w.begun + 1) false) (noted (begun_by w (Made (w.begun + 1) (switch_no s) frame)) (Crossed (w.begun + 1) (switch_no s)))
  once_made w frame acts speech few making crossing c =
      let n : ℕ = w.begun + 1 in
      let first : WorldView = begun_by w (Made n (switch_no s) frame) in
      let begun = begin_with targets w (Made n (switch_no s) frame) (λ r there. 0) tt (λ r there. making (reverse w.journal) n r there) (once_over w (act.Make frame ∷ acts) speech c) in
      once_noted first acts (Waiting n false) (Crossed n (switch_no s)) tt (λ r there. crossing (reverse first.journal) n r there)
      (weaker targets first _ _ (λ r there. omega (arith, of_root_less (reverse first.journal) n (used targets.may_come w.plan s there acts) 1 r (few there))) begun)
