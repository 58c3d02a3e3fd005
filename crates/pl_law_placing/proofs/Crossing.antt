-- What entries and the acts of a switch do to the frames behind ports, and to what was received of hosts.
use Rattle.std.proofs.Common.{◌≡◌, ◌⊎◌, ◌≤◌, ◌+◌, ℕ, ◌==◌, ◌&&◌, Bool, true, false, true≢false, if◌then◌else◌, List, [], ◌∷◌, ◌++◌, reverse, get_or, set, Option, Some, None, is_some, refl, sym, ap, ◌∙◌, subst, arith, inl, inr, eqb-true, eq-eqb, ne_eqb, append-nil, append_assoc}
use Rattle.std.specs.List.{AllByRecursion}
use Rattle.std.proofs.lemmas.Bool.{and_parts, or_cases}
use Rattle.std.proofs.lemmas.List.{reverse-append}
use Rattle.pl_lemmas.proofs.Exports.{all_append}
use Rattle.pl_pmac.specs.declared.pmac.Pmac.{Pmac}
use Rattle.pl_wiring.specs.declared.host.HostNo.{HostNo}
use Rattle.pl_wiring.specs.declared.label.SwitchNo.{SwitchNo}
use Rattle.pl_wiring.specs.Index.{port_index}
use Rattle.pl_node.specs.declared.acts.Act.{Act}
use Rattle.pl_node.specs.declared.acts.Act.TheVariants as act
use Rattle.pl_node.specs.SwitchViews.{SwitchView}
use Rattle.pl_journal.specs.declared.cause.Cause.{Cause}
use Rattle.pl_journal.specs.declared.cause.Cause.TheVariants.{LinkDown}
use Rattle.pl_journal.specs.declared.entry.Entry.{Entry}
use Rattle.pl_journal.specs.declared.entry.Entry.TheVariants.{Copied, Crossed, Dropped, Freed, Granted, Made, Placed, Redirected, Sent, Taken}
use Rattle.pl_journal.specs.Flights.{is_empty, sender, trail}
use Rattle.pl_layouts.specs.declared.place.Place.{Place}
use Rattle.pl_layouts.specs.Placement.{same_place}
use Rattle.pl_queues.specs.Queues.{put_at}
use Rattle.pl_world.specs.declared.item.Item.{Item}
use Rattle.pl_world.specs.declared.item.Item.TheVariants.{Control, Data}
use Rattle.pl_world.specs.declared.spoken_frame.SpokenFrame.{SpokenFrame}
use Rattle.pl_world.specs.declared.spoken_frame.SpokenFrame.TheVariants.{Over, Passed, Silent, Waiting}
use Rattle.pl_world.specs.Changes.{all_noted, begun_by, host_no, host_of, is_failed_at, noted, switch_no}
use Rattle.pl_world.specs.SwitchActs.{DuringActs, act_done, acts_done, begins, crossed_again, goes_out, granted, place_noted, switch_stepped, with_late}
use Rattle.pl_world.specs.Worlds.{WorldView}
use Rattle.pl_world.proofs.Exports.{all_at, all_set}
use Rattle.pl_law_placing.specs.Receiving.{HasCrossed, HaveCrossed, ItemHasCrossed, comes_from_host, has_received}

-- an entry that says nothing of senders and crossings
pub record IsStill (e : Entry) : Type 0 where
  pub same_trail : (past : List Entry) (id : ℕ) → trail (e ∷ past) id ≡ trail past id
  pub same_sender : (past : List Entry) (id : ℕ) → sender (e ∷ past) id ≡ sender past id
  pub same_received : (past : List Entry) (s : ℕ) → has_received (e ∷ past) s ≡ has_received past s

pub still_dropped : (id : ℕ) (cause : Cause) → IsStill (Dropped id cause)
still_dropped id cause = record { same_trail = λ past x. refl; same_sender = λ past x. refl; same_received = λ past s. refl }

still_taken : (id s : ℕ) → IsStill (Taken id (switch_no s))
still_taken id s = record { same_trail = λ past x. refl; same_sender = λ past x. refl; same_received = λ past x. refl }

still_granted : (pmac : Pmac) (h s : ℕ) → IsStill (Granted pmac (host_no h) (switch_no s) pmac.port)
still_granted pmac h s = record { same_trail = λ past x. refl; same_sender = λ past x. refl; same_received = λ past x. refl }

still_freed : (pmac : Pmac) → IsStill (Freed pmac)
still_freed pmac = record { same_trail = λ past x. refl; same_sender = λ past x. refl; same_received = λ past x. refl }

still_redirected : (id : ℕ) (x y : Pmac) → IsStill (Redirected id x y)
still_redirected id x y = record { same_trail = λ past x. refl; same_sender = λ past x. refl; same_received = λ past x. refl }

still_placed : (s : ℕ) (place : Place) → IsStill (Placed (switch_no s) place)
still_placed s place = record { same_trail = λ past x. refl; same_sender = λ past x. refl; same_received = λ past x. refl }

all_kept : (P Q : Item → Type 0) → ((x : Item) → P x → Q x) → (xs : List (List Item)) → AllByRecursion (AllByRecursion P) xs → AllByRecursion (AllByRecursion Q) xs
all_kept P Q f [] all = tt
all_kept P Q f (x ∷ xs) all = (each x all.0, all_kept P Q f xs all.1)
  where
    each : (ys : List Item) → AllByRecursion P ys → AllByRecursion Q ys
    each [] h = tt
    each (y ∷ ys) h = (f y h.0, each ys h.1)

-- what crossed a switch has crossed it later
items_later : (past next : List Entry) (many more : ℕ) → many ≤ more → ((id : ℕ) → id ≤ many → is_empty (trail past id) ≡ false → is_empty (trail next id) ≡ false) →
    (out : List (List Item)) → AllByRecursion (AllByRecursion (ItemHasCrossed past many)) out → AllByRecursion (AllByRecursion (ItemHasCrossed next more)) out
items_later past next many more le later = all_kept (ItemHasCrossed past many) (ItemHasCrossed next more) each
  where
    each : (x : Item) → ItemHasCrossed past many x → ItemHasCrossed next more x
    each (Control frame) h = tt
    each (Data id frame) h = let b = h.begun in record { begun = omega (arith, b, le); some = later id h.begun h.some }

module _ (old : List Entry) (may : ℕ → Type 0) where
  -- frames behind ports have crossed a switch; and only such a switch has received a frame of a host since then
  pub record Goes (past : List Entry) (out : List (List Item)) (many : ℕ) : Type 0 where
    pub crossed : HaveCrossed past out many
    pub received : (s : ℕ) → has_received past s ≡ true → (has_received old s ≡ true) ⊎ may s

  abbrev pub GoesIn : WorldView → Type 0
  GoesIn w = Goes (reverse w.journal) w.out w.begun

  module _ (past : List Entry) (out : List (List Item)) (many : ℕ) where
    pub goes_still : (e : Entry) → IsStill e → Goes past out many → Goes (e ∷ past) out many
    goes_still e is g = record {
      crossed = record {
        items = items_later past (e ∷ past) many many (omega arith) (λ id le some. ap is_empty (is.same_trail past id) ∙ some) out g.crossed.items;
        unsent = λ id more. is.same_sender past id ∙ g.crossed.unsent id more;
      };
      received = λ s h. g.received s (sym (is.same_received past s) ∙ h);
    }

    -- a frame crosses a switch, which may be its first one
    pub goes_on : (id : ℕ) (s : SwitchNo) → (comes_from_host past id ≡ true → may s.0) → Goes past out many → Goes (Crossed id s ∷ past) out many
    goes_on id s allowed g = record {
      crossed = record {
        items = items_later past (Crossed id s ∷ past) many many (omega arith) (λ x le some. longer x (id == x) some) out g.crossed.items;
        unsent = g.crossed.unsent;
      };
      received = λ x h. elim (or_cases ((s.0 == x) && comes_from_host past id) (has_received past x) h) [
        | inl now ↦ let both = and_parts (s.0 == x) (comes_from_host past id) now in inr (subst may (eqb-true s.0 x both.0) (allowed both.1))
        | inr before ↦ g.received x before
      ];
    }
      where
        longer : (x : ℕ) (b : Bool) → is_empty (trail past x) ≡ false → is_empty (if b then s.0 ∷ trail past x else trail past x) ≡ false
        longer x true some = refl
        longer x false some = some

    pub goes_sent : (h : HostNo) (frame : List ℕ) → Goes past out many → Goes (Sent (many + 1) h frame ∷ past) out (many + 1)
    goes_sent h frame g = record {
      crossed = record {
        items = items_later past (Sent (many + 1) h frame ∷ past) many (many + 1) (omega arith) (λ id le some. some) out g.crossed.items;
        unsent = λ id more.
            ap (λ b. if b then Some h.0 else sender past id) (ne_eqb (many + 1) id (λ is. omega (arith, is, more))) ∙ g.crossed.unsent id (omega (arith, more));
      };
      received = g.received;
    }

    pub goes_made : (s : SwitchNo) (frame : List ℕ) → Goes past out many → Goes (Made (many + 1) s frame ∷ past) out (many + 1)
    goes_made s frame g = record {
      crossed = record {
        items = items_later past (Made (many + 1) s frame ∷ past) many (many + 1) (omega arith) (λ id le some. some) out g.crossed.items;
        unsent = λ id more. g.crossed.unsent id (omega (arith, more));
      };
      received = g.received;
    }

    pub goes_copied : (from : ℕ) → Goes past out many → Goes (Copied from (many + 1) ∷ past) out (many + 1)
    goes_copied from g = record {
      crossed = record {
        items = items_later past (Copied from (many + 1) ∷ past) many (many + 1) (omega arith)
            (λ id le some. ap (λ b. is_empty (trail past (if b then from else id))) (ne_eqb (many + 1) id (λ is. omega (arith, is, le))) ∙ some) out g.crossed.items;
        unsent = λ id more.
            ap (λ b. sender past (if b then from else id)) (ne_eqb (many + 1) id (λ is. omega (arith, is, more))) ∙ g.crossed.unsent id (omega (arith, more));
      };
      received = g.received;
    }

    pub goes_set : (at : ℕ) (items : List Item) → AllByRecursion (ItemHasCrossed past many) items → Goes past out many → Goes past (set out at items) many
    goes_set at items all g = record {
      crossed = record { items = all_set (AllByRecursion (ItemHasCrossed past many)) out at items all g.crossed.items; unsent = g.crossed.unsent };
      received = g.received;
    }

    pub goes_put : (at : ℕ) (item : Item) → ItemHasCrossed past many item → Goes past out many → Goes past (put_at out at item) many
    goes_put at item has g =
        goes_set at (get_or out at [] ++ item ∷ [])
        (all_append (ItemHasCrossed past many) (get_or out at []) (item ∷ [])
        (all_at (AllByRecursion (ItemHasCrossed past many)) out at [] tt g.crossed.items) (has, tt)) g

    goes_if : (b : Bool) (more : List (List Item)) → Goes past out many → Goes past more many → Goes past (if b then out else more) many
    goes_if true more a b = a
    goes_if false more a b = b

  pub one_more : (journal : List Entry) (e : Entry) → reverse (journal ++ e ∷ []) ≡ e ∷ reverse journal
  one_more journal e = reverse-append journal (e ∷ [])

  -- an entry is written
  pub goes_noted : (journal : List Entry) (e : Entry) (out : List (List Item)) (many : ℕ) → Goes (e ∷ reverse journal) out many → Goes (reverse (journal ++ e ∷ [])) out many
  goes_noted journal e out many g = subst (λ past. Goes past out many) (sym (one_more journal e)) g

  pub goes_entry : (w : WorldView) (e : Entry) → IsStill e → GoesIn w → GoesIn (noted w e)
  goes_entry w e is g = goes_noted w.journal e w.out w.begun (goes_still (reverse w.journal) w.out w.begun e is g)

  pub goes_entries : (w : WorldView) (es : List Entry) → AllByRecursion IsStill es → GoesIn w → GoesIn (all_noted w es)
  goes_entries w [] all g = subst (λ j. Goes (reverse j) w.out w.begun) (sym (append-nil w.journal)) g
  goes_entries w (e ∷ es) all g =
      subst (λ j. Goes (reverse j) w.out w.begun) (append_assoc w.journal (e ∷ []) es) (goes_entries (noted w e) es all.1 (goes_entry w e all.0 g))

  -- amid the acts of a switch
  abbrev pub HasLeft : List Entry → ℕ → SpokenFrame → Type 0
  HasLeft past many Silent = Unit {0}
  HasLeft past many (Waiting id again) = HasCrossed past many id
  HasLeft past many (Passed id) = HasCrossed past many id
  HasLeft past many Over = Unit {0}

  pub record Amid (w : WorldView) (speech : SpokenFrame) (late : List Entry) : Type 0 where
    pub goes : GoesIn w
    pub said : HasLeft (reverse w.journal) w.begun speech
    pub ends : AllByRecursion IsStill late

  abbrev pub AmidActs : DuringActs → Type 0
  AmidActs d = Amid d.world d.speech d.late

  crossed_still : (past : List Entry) (many id : ℕ) (e : Entry) → IsStill e → HasCrossed past many id → HasCrossed (e ∷ past) many id
  crossed_still past many id e is has = record { begun = has.begun; some = ap is_empty (is.same_trail past id) ∙ has.some }

  crossed_entry : (w : WorldView) (e : Entry) (id : ℕ) → IsStill e → HasCrossed (reverse w.journal) w.begun id → HasCrossed (reverse (w.journal ++ e ∷ [])) w.begun id
  crossed_entry w e id is has = subst (λ past. HasCrossed past w.begun id) (sym (one_more w.journal e)) (crossed_still (reverse w.journal) w.begun id e is has)

  said_still : (w : WorldView) (e : Entry) → IsStill e → (speech : SpokenFrame) → HasLeft (reverse w.journal) w.begun speech →
      HasLeft (reverse (w.journal ++ e ∷ [])) w.begun speech
  said_still w e is Silent said = tt
  said_still w e is (Waiting id again) said = crossed_entry w e id is said
  said_still w e is (Passed id) said = crossed_entry w e id is said
  said_still w e is Over said = tt

  -- a frame that crossed a switch crosses one more
  crosses : (past : List Entry) (out : List (List Item)) (many id : ℕ) (s : SwitchNo) → HasCrossed past many id → Goes past out many →
      Goes (Crossed id s ∷ past) out many × HasCrossed (Crossed id s ∷ past) many id
  crosses past out many id s has g = (
    goes_on past out many id s (λ first. absurd (true≢false (sym (and_parts (is_some (sender past id)) (is_empty (trail past id)) first).1 ∙ has.some))) g,
    record { begun = has.begun; some = ap (λ b. is_empty (if b then s.0 ∷ trail past id else trail past id)) (eq-eqb id id refl) },
  )

  again_goes : (w : WorldView) (s id : ℕ) (again : Bool) → HasCrossed (reverse w.journal) w.begun id → GoesIn w →
      GoesIn (crossed_again w s id again) × HasCrossed (reverse (crossed_again w s id again).journal) w.begun id
  again_goes w s id false has g = (
    subst (λ j. Goes (reverse j) w.out w.begun) (sym (append-nil w.journal)) g,
    subst (λ j. HasCrossed (reverse j) w.begun id) (sym (append-nil w.journal)) has,
  )
  again_goes w s id true has g =
      let more = crosses (reverse w.journal) w.out w.begun id (switch_no s) has g in (
        goes_noted w.journal (Crossed id (switch_no s)) w.out w.begun more.0,
        subst (λ past. HasCrossed past w.begun id) (sym (one_more w.journal (Crossed id (switch_no s)))) more.1,
      )

  -- a frame goes out
  out_amid : (s : ℕ) (w : WorldView) (speech next : SpokenFrame) (late : List Entry) (id port : ℕ) (frame : List ℕ) → HasCrossed (reverse w.journal) w.begun id →
      HasLeft (reverse w.journal) w.begun next → GoesIn w → AllByRecursion IsStill late →
      AmidActs (record (goes_out s (record { world = w; speech = speech; late = late }) id port frame) { speech = next })
  out_amid s w speech next late id port frame has said g ends = record {
    goes = goes_if (reverse w.journal) w.out w.begun (is_failed_at w s port) (put_at w.out (port_index w.plan.k s port) (Data id frame)) g
        (goes_put (reverse w.journal) w.out w.begun (port_index w.plan.k s port) (Data id frame) has g);
    said = said;
    ends = late_more (is_failed_at w s port);
  }
    where
      late_more : (b : Bool) → AllByRecursion IsStill (if b then late ++ Dropped id LinkDown ∷ [] else late)
      late_more true = all_append IsStill late (Dropped id LinkDown ∷ []) ends (still_dropped id LinkDown, tt)
      late_more false = ends

  copied_amid : (s : ℕ) (w : WorldView) (late : List Entry) (id port : ℕ) (frame : List ℕ) → HasCrossed (reverse w.journal) w.begun id → GoesIn w →
      AllByRecursion IsStill late → AmidActs (act_done s (record { world = w; speech = Passed id; late = late }) (act.Pass port frame))
  copied_amid s w late id port frame has g ends =
      let e = Copied id (w.begun + 1) in
      let past = reverse w.journal in
      let mid : WorldView = begun_by w e in
      out_amid s mid (Passed id) (Passed id) late (w.begun + 1) port frame
      (subst (λ p. HasCrossed p (w.begun + 1) (w.begun + 1)) (sym (one_more w.journal e))
      (record { begun = omega arith; some = ap (λ b. is_empty (trail past (if b then id else (w.begun + 1)))) (eq-eqb (w.begun + 1) (w.begun + 1) refl) ∙ has.some }))
      (subst (λ p. HasCrossed p (w.begun + 1) id) (sym (one_more w.journal e))
      (record {
        begun = (let b = has.begun in omega (arith, b));
        some = (let b = has.begun in ap (λ b. is_empty (trail past (if b then id else id))) (ne_eqb (w.begun + 1) id (λ is. omega (arith, is, b))) ∙ has.some);
      }))
      (goes_noted w.journal e w.out (w.begun + 1) (goes_copied past w.out w.begun id g)) ends

  -- a switch makes a frame
  made_amid : (s : ℕ) (w : WorldView) (speech : SpokenFrame) (late : List Entry) (frame : List ℕ) → GoesIn w → AllByRecursion IsStill late →
      AmidActs (act_done s (record { world = w; speech = speech; late = late }) (act.Make frame))
  made_amid s w speech late frame g ends =
      let first : WorldView = all_noted w late in
      let e = Made (w.begun + 1) (switch_no s) frame in
      let past = reverse first.journal in
      let made = goes_made past w.out w.begun (switch_no s) frame (goes_entries w late ends g) in
      let none : sender past (w.begun + 1) ≡ None = (goes_entries w late ends g).crossed.unsent (w.begun + 1) (omega arith) in
      let crossing = Crossed (w.begun + 1) (switch_no s) in
      let on = goes_on (e ∷ past) w.out (w.begun + 1) (w.begun + 1) (switch_no s)
      (λ h. absurd (true≢false (sym (and_parts (is_some (sender past (w.begun + 1))) (is_empty (trail past (w.begun + 1))) h).0 ∙ ap (λ (o : Option ℕ). is_some o) none))) made in
      record {
        goes = goes_noted (first.journal ++ e ∷ []) crossing w.out (w.begun + 1)
            (subst (λ p. Goes (crossing ∷ p) w.out (w.begun + 1)) (sym (one_more first.journal e)) on);
        said = subst (λ p. HasCrossed p (w.begun + 1) (w.begun + 1)) (sym (one_more (first.journal ++ e ∷ []) crossing)) (record {
          begun = omega arith;
          some = ap (λ b. is_empty (if b then s ∷ trail (reverse (first.journal ++ e ∷ [])) (w.begun + 1) else trail (reverse (first.journal ++ e ∷ [])) (w.begun + 1)))
              (eq-eqb (w.begun + 1) (w.begun + 1) refl);
        });
        ends = tt;
      }

  -- the frame ends at the switch
  ended_amid : (s : ℕ) (w : WorldView) (late : List Entry) (id : ℕ) (again : Bool) (e : Entry) → IsStill e → HasCrossed (reverse w.journal) w.begun id → GoesIn w →
      AllByRecursion IsStill late → Amid (noted (crossed_again w s id again) e) Over late
  ended_amid s w late id again e is has g ends =
      record { goes = goes_entry (crossed_again w s id again) e is (again_goes w s id again has g).0; said = tt; ends = ends }

  grant_goes : (w : WorldView) (s : ℕ) (pmac : Pmac) (host : Option ℕ) (speech : SpokenFrame) (late : List Entry) → Amid w speech late → Amid (granted w s pmac host) speech late
  grant_goes w s pmac None speech late a = a
  grant_goes w s pmac (Some h) speech late a =
      let e = Granted pmac (host_no h) (switch_no s) pmac.port in
      record { goes = goes_entry w e (still_granted pmac h s) a.goes; said = said_still w e (still_granted pmac h s) speech a.said; ends = a.ends }

  act_amid : (s : ℕ) (w : WorldView) (speech : SpokenFrame) (late : List Entry) (a : Act) → Amid w speech late →
      AmidActs (act_done s (record { world = w; speech = speech; late = late }) a)
  act_amid s w speech late (act.Control port frame) m = record {
    goes = goes_if (reverse w.journal) w.out w.begun (is_failed_at w s port) (put_at w.out (port_index w.plan.k s port) (Control frame)) m.goes
        (goes_put (reverse w.journal) w.out w.begun (port_index w.plan.k s port) (Control frame) tt m.goes);
    said = m.said;
    ends = m.ends;
  }
  act_amid s w speech late (act.Tell told) m = record { goes = m.goes; said = m.said; ends = m.ends }
  act_amid s w speech late (act.Grant pmac amac) m = grant_goes w s pmac (host_of w.plan amac) speech late m
  act_amid s w speech late (act.Free pmac) m = record {
    goes = goes_entry w (Freed pmac) (still_freed pmac) m.goes;
    said = said_still w (Freed pmac) (still_freed pmac) speech m.said;
    ends = m.ends;
  }
  act_amid s w speech late (act.Make frame) m = made_amid s w speech late frame m.goes m.ends
  act_amid s w Silent late (act.Redirect x y) m = m
  act_amid s w (Waiting id again) late (act.Redirect x y) m = record {
    goes = goes_entry w (Redirected id x y) (still_redirected id x y) m.goes;
    said = crossed_entry w (Redirected id x y) id (still_redirected id x y) m.said;
    ends = m.ends;
  }
  act_amid s w (Passed id) late (act.Redirect x y) m = m
  act_amid s w Over late (act.Redirect x y) m = m
  act_amid s w Silent late (act.Pass port frame) m = m
  act_amid s w (Waiting id again) late (act.Pass port frame) m =
      let on = again_goes w s id again m.said m.goes in
      out_amid s (crossed_again w s id again) (Waiting id again) (Passed id) late id port frame on.1 on.1 on.0 m.ends
  act_amid s w (Passed id) late (act.Pass port frame) m = copied_amid s w late id port frame m.said m.goes m.ends
  act_amid s w Over late (act.Pass port frame) m = m
  act_amid s w Silent late act.Take m = m
  act_amid s w (Waiting id again) late act.Take m = ended_amid s w late id again (Taken id (switch_no s)) (still_taken id s) m.said m.goes m.ends
  act_amid s w (Passed id) late act.Take m = m
  act_amid s w Over late act.Take m = m
  act_amid s w Silent late (act.Drop cause) m = m
  act_amid s w (Waiting id again) late (act.Drop cause) m = ended_amid s w late id again (Dropped id cause) (still_dropped id cause) m.said m.goes m.ends
  act_amid s w (Passed id) late (act.Drop cause) m = m
  act_amid s w Over late (act.Drop cause) m = m

  acts_amid : (s : ℕ) (d : DuringActs) (acts : List Act) → AmidActs d → AmidActs (acts_done s d acts)
  acts_amid s d [] m = m
  acts_amid s d (a ∷ acts) m = acts_amid s (act_done s d a) acts (act_amid s d.world d.speech d.late a m)

  -- a switch steps
  pub stepped_goes : (w : WorldView) (s : ℕ) (before after : SwitchView) (speech : SpokenFrame) (acts : List Act) → HasLeft (reverse w.journal) w.begun speech → GoesIn w →
      GoesIn (switch_stepped w s before after speech acts)
  stepped_goes w s before after speech acts said g =
      let end = acts_amid s (begins (record w { switches = set w.switches s after }) speech) acts (record { goes = g; said = said; ends = tt }) in
      place_goes (with_late (acts_done s (begins (record w { switches = set w.switches s after }) speech) acts)) before.place after.place
      (goes_entries (acts_done s (begins (record w { switches = set w.switches s after }) speech) acts).world _ end.ends end.goes)
    where
      place_goes : (x : WorldView) (old new : Place) → GoesIn x → GoesIn (place_noted s old new x)
      place_goes x old new h = goes_entries x (if same_place old new then [] else Placed (switch_no s) new ∷ []) (by (same_place old new)) h
        where
          by : (b : Bool) → AllByRecursion IsStill (if b then [] else Placed (switch_no s) new ∷ [])
          by true = tt
          by false = (still_placed s new, tt)
