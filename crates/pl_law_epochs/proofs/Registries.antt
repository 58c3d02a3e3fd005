-- What the manager knows stays in order: it notes something of an address, it hears of one again or for the first time, it forgets one.
use Rattle.std.proofs.Common.{◌≡◌, ◌⊎◌, ◌≤◌, ℕ, ◌+◌, true, false, Option, Some, None, refl, sym, ap, subst, ◌∙◌, inl, inr, arith, le_refl}
use Rattle.std.specs.Option.{option_and_then}
use Rattle.std.proofs.lemmas.Bool.{cases_Bool, false≢true, false_from_ne_true}
use Rattle.std.proofs.lemmas.Option.{none-some, same_Some}
use Rattle.pl_frame.specs.declared.address.Ip4.{Ip4}
use Rattle.pl_frame.specs.declared.address.Mac.{Mac}
use Rattle.pl_frame.specs.declared.address.SwitchId.{SwitchId}
use Rattle.pl_pmac.specs.declared.pmac.Pmac.{Pmac}
use Rattle.pl_layouts.specs.Equality.{same_mac, same_pmac}
use Rattle.pl_layouts.proofs.Exports.{mac_is, mac_itself, pmac_itself}
use Rattle.pl_node.specs.ManagerViews.{Recall, Registration, Reported}
use Rattle.pl_law_addresses.specs.OwnAddresses.{IsOwnIp}
use Rattle.pl_law_addresses.proofs.Exports.{is_or_other}
use Rattle.pl_law_epochs.specs.Edges.{IsGoodRegistry, IsKnownToo, LeadsToNewer, Registry, recall_at}
use Rattle.pl_law_epochs.proofs.Learnt.{Forgets, IsLedNowhere, Notes}
use Rattle.pl_law_epochs.proofs.Registering.{HearsAgain, HearsIp, HearsNew, IsNotNewest}
use Rattle.pl_law_epochs.proofs.Staying.{KnowsAlike}

-- what was registered stays so
abbrev pub KeepsRegistered : Registry → Registry → Type 0
KeepsRegistered r n = (x : Pmac) (reg : Registration) → r.at x ≡ Some reg → n.at x ≡ Some reg

leads_kept : (r n : Registry) → KeepsRegistered r n → (old new : Pmac) (number : ℕ) (mac : Mac) → LeadsToNewer r old new number mac → LeadsToNewer n old new number mac
leads_kept r n keeps old new number mac leads = record {
  before = leads.before;
  after = leads.after;
  found_before = keeps old leads.before leads.found_before;
  found_after = keeps new leads.after leads.found_after;
  mac_before = leads.mac_before;
  mac_after = leads.mac_after;
  number_after = leads.number_after;
  rises = leads.rises;
}

abbrev recall_in : Option Reported → Option Recall
recall_in o = option_and_then (λ known. known.recall) o

-- ---- something is noted of an address: of one that is registered, that it has aged at most
pub record IsFitting (r : Registry) (x : Pmac) (now : Reported) : Type 0 where
  pub known : Reported
  pub found : r.known_at x ≡ Some known
  pub recall : now.recall ≡ known.recall
  pub switch : now.switch ≡ known.switch
  pub aged : now.aged ≡ false → known.aged ≡ false

module _ (own : Mac → Option Ip4) (r n : Registry) (x : Pmac) (now : Reported) (k : Notes r n x now) (fits : (reg : Registration) → r.at x ≡ Some reg → IsFitting r x now)
    (good : IsGoodRegistry own r) where
  noted_recall : (y : Pmac) (reg : Registration) → r.at y ≡ Some reg → recall_at n y ≡ recall_at r y
  noted_recall y reg is = elim (is_or_other y x) [
    | inr other ↦ ap recall_in (k.others y other)
    | inl same ↦
        let f = fits reg (ap r.at (sym same) ∙ is) in
        ap (λ z. recall_at n z) same ∙ ap recall_in k.here ∙ f.recall ∙ sym (ap recall_in f.found) ∙ ap (λ z. recall_at r z) (sym same)
  ]

  noted_too : (y : Pmac) (reg : Registration) → r.at y ≡ Some reg → IsKnownToo n y reg
  noted_too y reg is = let too = good.known_too y reg is in elim (is_or_other y x) [
    | inr other ↦ record { known = too.known; found = k.others y other ∙ too.found; switch = too.switch }
    | inl same ↦
        let f = fits reg (ap r.at (sym same) ∙ is) in
        let one : f.known ≡ too.known = same_Some f.known too.known (sym f.found ∙ ap r.known_at (sym same) ∙ too.found) in
        record { known = now; found = ap n.known_at same ∙ k.here; switch = f.switch ∙ ap (λ (q : Reported). q.switch) one ∙ too.switch }
  ]

  noted_leads : (y : Pmac) (reg : Registration) (known : Reported) (c : Recall) → r.at y ≡ Some reg → n.known_at y ≡ Some known → known.recall ≡ Some c → known.aged ≡ false →
      LeadsToNewer r y c.new c.number reg.amac
  noted_leads y reg known c is found to waits = elim (is_or_other y x) [
    | inr other ↦ good.leads y reg known c is (sym (k.others y other) ∙ found) to waits
    | inl same ↦
        let here = ap r.at (sym same) ∙ is in
        let f = fits reg here in
        let one : now ≡ known = same_Some now known (sym k.here ∙ ap n.known_at (sym same) ∙ found) in
        subst (λ (z : Pmac). LeadsToNewer r z c.new c.number reg.amac) (sym same)
        (good.leads x reg f.known c here f.found (sym f.recall ∙ ap (λ (q : Reported). q.recall) one ∙ to) (f.aged (ap (λ (q : Reported). q.aged) one ∙ waits)))
  ]

  pub notes_good : IsGoodRegistry own n
  notes_good = record {
    named = λ y reg is. good.named y reg (sym (k.at y) ∙ is);
    counted = λ y reg is. subst (λ m. reg.number ≤ m) (sym k.count) (good.counted y reg (sym (k.at y) ∙ is));
    known_too = λ y reg is. noted_too y reg (sym (k.at y) ∙ is);
    newest_is = λ m reg is. let it = good.newest_is m reg (sym (k.newest m) ∙ is) in (it.0, k.at reg.pmac ∙ it.1);
    newest_leads = λ m reg is.
        let old = sym (k.newest m) ∙ is in
        noted_recall reg.pmac reg (good.newest_is m reg old).1 ∙ good.newest_leads m reg old;
    is_newest = λ y reg is none.
        let old = sym (k.at y) ∙ is in k.newest reg.amac ∙ good.is_newest y reg old (sym (noted_recall y reg old) ∙ none);
    leads = λ y reg known c is found to waits.
        leads_kept r n (λ z q at. k.at z ∙ at) y c.new c.number reg.amac (noted_leads y reg known c (sym (k.at y) ∙ is) found to waits);
    ips = λ y ip is. let it = good.ips y ip (sym (k.ip y) ∙ is) in record { reg = it.reg; found = k.at y ∙ it.found; own_ip = it.own_ip };
  }

-- ---- an address is forgotten, to which no trap leads that is known to stand
pub forgotten_good : (own : Mac → Option Ip4) (r n : Registry) (x : Pmac) → Forgets r n x → IsLedNowhere r x → IsGoodRegistry own r → IsGoodRegistry own n
forgotten_good own r n x k nowhere good = record {
  named = λ y reg is. good.named y reg (before y reg is).1;
  counted = λ y reg is. subst (λ m. reg.number ≤ m) (sym k.count) (good.counted y reg (before y reg is).1);
  known_too = λ y reg is.
      let was = before y reg is in
      let too = good.known_too y reg was.1 in
      record { known = too.known; found = (k.alike y was.0).known ∙ too.found; switch = too.switch };
  newest_is = λ m reg is.
      let was = k.was_newest m reg is in let it = good.newest_is m reg was.0 in (it.0, (k.alike reg.pmac was.1).at ∙ it.1);
  newest_leads = λ m reg is. let was = k.was_newest m reg is in ap recall_in (k.alike reg.pmac was.1).known ∙ good.newest_leads m reg was.0;
  is_newest = λ y reg is none.
      let was = before y reg is in
      k.newest reg.amac reg (good.is_newest y reg was.1 (sym (ap recall_in (k.alike y was.0).known) ∙ none)) (ap (λ z. same_pmac z x) (good.named y reg was.1) ∙ was.0);
  leads = λ y reg known c is found to waits.
      let was = before y reg is in
      let alike = k.alike y was.0 in
      let there = sym alike.known ∙ found in
      let it = good.leads y reg known c was.1 there to waits in
      let apart : same_pmac c.new x ≡ false = false_from_ne_true (same_pmac c.new x) (λ here. nowhere y known c there to waits here) in
      record {
        before = it.before;
        after = it.after;
        found_before = alike.at ∙ it.found_before;
        found_after = (k.alike c.new apart).at ∙ it.found_after;
        mac_before = it.mac_before;
        mac_after = it.mac_after;
        number_after = it.number_after;
        rises = it.rises;
      };
  ips = λ y ip is. elim (is_or_other y x) [
    | inl same ↦ absurd (none-some ip (sym k.no_ip ∙ ap n.ip_at (sym same) ∙ is))
    | inr other ↦ let it = good.ips y ip (sym (k.ip y other) ∙ is) in record { reg = it.reg; found = (k.alike y other).at ∙ it.found; own_ip = it.own_ip }
  ];
}
  where
    before : (y : Pmac) (reg : Registration) → n.at y ≡ Some reg → (same_pmac y x ≡ false) × (r.at y ≡ Some reg)
    before y reg is = elim (is_or_other y x) [
      | inl same ↦ absurd (none-some reg (sym k.none ∙ ap n.at (sym same) ∙ is))
      | inr other ↦ (other, sym (k.alike y other).at ∙ is)
    ]

-- ---- an address is told
module _ (own : Mac → Option Ip4) (r n : Registry) (good : IsGoodRegistry own r) (x : Pmac) (mac : Mac) (told : Option Ip4) (is_own : IsOwnIp own mac told)
    (ips : HearsIp r n x told) where
  -- again: the host that is told of is the one that it was registered for
  pub again_good : (h : HearsAgain r n x) → h.reg.amac ≡ mac → IsGoodRegistry own n
  again_good h same = record {
    named = λ y reg is. good.named y reg (sym (h.alike y).at ∙ is);
    counted = λ y reg is. subst (λ m. reg.number ≤ m) (sym h.count) (good.counted y reg (sym (h.alike y).at ∙ is));
    known_too = λ y reg is. let too = good.known_too y reg (sym (h.alike y).at ∙ is) in record { known = too.known; found = (h.alike y).known ∙ too.found; switch = too.switch };
    newest_is = λ m reg is. let it = good.newest_is m reg (sym (h.newest m) ∙ is) in (it.0, (h.alike reg.pmac).at ∙ it.1);
    newest_leads = λ m reg is. ap recall_in (h.alike reg.pmac).known ∙ good.newest_leads m reg (sym (h.newest m) ∙ is);
    is_newest = λ y reg is none. h.newest reg.amac ∙ good.is_newest y reg (sym (h.alike y).at ∙ is) (sym (ap recall_in (h.alike y).known) ∙ none);
    leads = λ y reg known c is found to waits.
        leads_kept r n (λ z q at. (h.alike z).at ∙ at) y c.new c.number reg.amac
        (good.leads y reg known c (sym (h.alike y).at ∙ is) (sym (h.alike y).known ∙ found) to waits);
    ips = λ y ip is. elim (ips.from y ip is) [
      | inl now ↦ record { reg = h.reg; found = (h.alike y).at ∙ ap r.at (sym now.0) ∙ h.found; own_ip = ap own same ∙ is_own ip now.1 }
      | inr before ↦ let it = good.ips y ip before in record { reg = it.reg; found = (h.alike y).at ∙ it.found; own_ip = it.own_ip }
    ];
  }

  -- or for the first time
  module _ (s : SwitchId) (h : HearsNew r n x mac s) where
    reg : Registration
    reg = record { pmac = x; amac = mac; number = r.count + 1; switch = s }

    -- what was registered was no such address
    apart : (y : Pmac) (q : Registration) → r.at y ≡ Some q → same_pmac x y ≡ false
    apart y q is = elim (is_or_other x y) [
      | inl same ↦ absurd (none-some q (sym h.none ∙ ap r.at same ∙ is))
      | inr other ↦ other
    ]

    pub new_grows : KeepsRegistered r n
    new_grows y q is = h.at y (apart y q is) ∙ is

    -- an address that is registered now is this one, or was so before
    pub new_or_old : (y : Pmac) (q : Registration) → n.at y ≡ Some q →
        ((x ≡ y) × (record { pmac = x; amac = mac; number = r.count + 1; switch = s } ≡ q)) ⊎ (r.at y ≡ Some q)
    unfolding reg
    new_or_old y q is = elim (is_or_other x y) [
      | inl same ↦ inl (same, same_Some reg q (sym h.here ∙ ap n.at same ∙ is))
      | inr other ↦ inr (sym (h.at y other) ∙ is)
    ]

    -- the newest address of another host is not this host's
    other_host : (m : Mac) (q : Registration) → same_mac mac m ≡ false → (q.amac ≡ m) × (r.at q.pmac ≡ Some q) → IsNotNewest r mac q.pmac
    other_host m q other it old is = elim (is_or_other old.pmac q.pmac) [
      | inr no_same ↦ no_same
      | inl same ↦
          let was = good.newest_is mac old is in
          let one : old ≡ q = same_Some old q (sym was.1 ∙ ap r.at same ∙ it.1) in
          let host : mac ≡ m = sym was.0 ∙ ap (λ (p : Registration). p.amac) one ∙ it.0 in
          absurd (false≢true (sym other ∙ subst (λ z. same_mac mac z ≡ true) host (mac_itself mac)))
    ]

    not_the : (old : Registration) → r.newest_of mac ≡ Some old → (y : Pmac) → same_pmac old.pmac y ≡ false → IsNotNewest r mac y
    not_the old newest y other first is = ap (λ (p : Registration). same_pmac p.pmac y) (same_Some first old (sym is ∙ newest)) ∙ other

    none_newest : r.newest_of mac ≡ None → (y : Pmac) → IsNotNewest r mac y
    none_newest none y first is = absurd (none-some first (sym none ∙ is))

    -- what is known then of the one that was the newest
    record IsLedNow (old : Registration) : Type 0 where
      known : Reported
      found : r.known_at old.pmac ≡ Some known
      switch : known.switch ≡ old.switch
      now : n.known_at old.pmac ≡ Some (record known { recall = Some (record { new = x; number = r.count + 1 }); aged = false })

    led_now : (old : Registration) → r.newest_of mac ≡ Some old → IsLedNow old
    led_now old newest =
        let too = good.known_too old.pmac old (good.newest_is mac old newest).1 in
        record { known = too.known; found = too.found; switch = too.switch; now = h.led old newest too.known too.found }

    pub known_then : (y : Pmac) (q : Registration) → r.at y ≡ Some q → (o : Option Registration) → r.newest_of mac ≡ o → IsKnownToo n y q
    known_then y q is None newest =
        let too = good.known_too y q is in
        record { known = too.known; found = (h.alike y (apart y q is) (none_newest newest y)).known ∙ too.found; switch = too.switch }
    known_then y q is (Some old) newest = let too = good.known_too y q is in elim (is_or_other old.pmac y) [
      | inr other ↦ record { known = too.known; found = (h.alike y (apart y q is) (not_the old newest y other)).known ∙ too.found; switch = too.switch }
      | inl same ↦
          let led = led_now old newest in
          let one : old ≡ q = same_Some old q (sym (good.newest_is mac old newest).1 ∙ ap r.at same ∙ is) in
          record {
            known = record led.known { recall = Some (record { new = x; number = r.count + 1 }); aged = false };
            found = ap n.known_at (sym same) ∙ led.now;
            switch = led.switch ∙ ap (λ (p : Registration). p.switch) one;
          }
    ]

    still_newest : (y : Pmac) (q : Registration) → r.at y ≡ Some q → recall_at n y ≡ None → (o : Option Registration) → r.newest_of mac ≡ o → n.newest_of q.amac ≡ Some q
    still_newest y q is none None newest =
        let before = good.is_newest y q is (sym (ap recall_in (h.alike y (apart y q is) (none_newest newest y)).known) ∙ none) in
        elim (cases_Bool (same_mac mac q.amac)) [
          | inl same ↦ absurd (none-some q (sym newest ∙ ap r.newest_of (mac_is mac q.amac same) ∙ before))
          | inr other ↦ h.newest q.amac other ∙ before
        ]
    still_newest y q is none (Some old) newest = elim (is_or_other old.pmac y) [
      | inl same ↦
          let goes : Recall = record { new = x; number = r.count + 1 } in
          absurd (none-some goes (sym none ∙ ap (λ z. recall_at n z) (sym same) ∙ ap recall_in (led_now old newest).now))
      | inr apart_from ↦
          let before = good.is_newest y q is (sym (ap recall_in (h.alike y (apart y q is) (not_the old newest y apart_from)).known) ∙ none) in
          elim (cases_Bool (same_mac mac q.amac)) [
            | inl same ↦
                let one : old ≡ q = same_Some old q (sym newest ∙ ap r.newest_of (mac_is mac q.amac same) ∙ before) in
                let name : old.pmac ≡ y = ap (λ (p : Registration). p.pmac) one ∙ good.named y q is in
                absurd (false≢true (sym apart_from ∙ subst (λ z. same_pmac old.pmac z ≡ true) name (pmac_itself old.pmac)))
            | inr other ↦ h.newest q.amac other ∙ before
          ]
    ]

    was_leading : (y : Pmac) (q : Registration) (known : Reported) (c : Recall) → r.at y ≡ Some q → n.known_at y ≡ Some known → known.recall ≡ Some c → known.aged ≡ false → KnowsAlike r n y →
        LeadsToNewer n y c.new c.number q.amac
    was_leading y q known c is found to waits alike =
        leads_kept r n new_grows y c.new c.number q.amac (good.leads y q known c is (sym alike.known ∙ found) to waits)

    still_leads : (y : Pmac) (q : Registration) (known : Reported) (c : Recall) → r.at y ≡ Some q → n.known_at y ≡ Some known → known.recall ≡ Some c → known.aged ≡ false →
        (o : Option Registration) → r.newest_of mac ≡ o → LeadsToNewer n y c.new c.number q.amac
    unfolding reg
    still_leads y q known c is found to waits None newest = was_leading y q known c is found to waits (h.alike y (apart y q is) (none_newest newest y))
    still_leads y q known c is found to waits (Some old) newest = elim (is_or_other old.pmac y) [
      | inr other ↦ was_leading y q known c is found to waits (h.alike y (apart y q is) (not_the old newest y other))
      | inl same ↦
          let was = good.newest_is mac old newest in
          let one : old ≡ q = same_Some old q (sym was.1 ∙ ap r.at same ∙ is) in
          let goes : Recall = record { new = x; number = r.count + 1 } in
          let led = led_now old newest in
          let now : record led.known { recall = Some goes; aged = false } ≡ known = same_Some (record led.known { recall = Some goes; aged = false }) known (sym led.now ∙ ap n.known_at same ∙ found) in
          let there : goes ≡ c = same_Some goes c (ap (λ (k : Reported). k.recall) now ∙ to) in
          let host : mac ≡ q.amac = sym was.0 ∙ ap (λ (p : Registration). p.amac) one in
          subst (λ (d : Recall). LeadsToNewer n y d.new d.number q.amac) there (record {
            before = q;
            after = reg;
            found_before = new_grows y q is;
            found_after = h.here;
            mac_before = refl;
            mac_after = host;
            number_after = refl;
            rises = let few = good.counted y q is in omega (arith, few);
          })
    ]

    pub new_good : IsGoodRegistry own n
    unfolding reg
    new_good = record {
      named = λ y q is. elim (new_or_old y q is) [
        | inl now ↦ sym (ap (λ (p : Registration). p.pmac) now.1) ∙ now.0
        | inr before ↦ good.named y q before
      ];
      counted = λ y q is. elim (new_or_old y q is) [
        | inl now ↦ subst (λ m. q.number ≤ m) (sym h.count) (subst (λ (p : Registration). p.number ≤ r.count + 1) now.1 (le_refl (r.count + 1)))
        | inr before ↦ let few = good.counted y q before in let more = h.count in omega (arith, few, more)
      ];
      known_too = λ y q is. elim (new_or_old y q is) [
        | inl now ↦ record {
          known = record { switch = s; pmac = x; recall = None; aged = false };
          found = ap n.known_at (sym now.0) ∙ h.known_here;
          switch = ap (λ (p : Registration). p.switch) now.1;
        }
        | inr before ↦ known_then y q before (r.newest_of mac) refl
      ];
      newest_is = λ m q is. elim (cases_Bool (same_mac mac m)) [
        | inl same ↦
            let mine : mac ≡ m = mac_is mac m same in
            let now : reg ≡ q = same_Some reg q (sym h.newest_here ∙ ap n.newest_of mine ∙ is) in
            (sym (ap (λ (p : Registration). p.amac) now) ∙ mine, ap (λ (p : Registration). n.at p.pmac) (sym now) ∙ h.here ∙ ap Some now)
        | inr other ↦ let it = good.newest_is m q (sym (h.newest m other) ∙ is) in (it.0, new_grows q.pmac q it.1)
      ];
      newest_leads = λ m q is. elim (cases_Bool (same_mac mac m)) [
        | inl same ↦
            let now : reg ≡ q = same_Some reg q (sym h.newest_here ∙ ap n.newest_of (mac_is mac m same) ∙ is) in
            ap (λ (p : Registration). recall_at n p.pmac) (sym now) ∙ ap recall_in h.known_here
        | inr other ↦
            let old : r.newest_of m ≡ Some q = sym (h.newest m other) ∙ is in let it = good.newest_is m q old in
            ap recall_in (h.alike q.pmac (apart q.pmac q it.1) (other_host m q other it)).known ∙ good.newest_leads m q old
      ];
      is_newest = λ y q is none. elim (new_or_old y q is) [
        | inl now ↦ ap (λ (p : Registration). n.newest_of p.amac) (sym now.1) ∙ h.newest_here ∙ ap Some now.1
        | inr before ↦ still_newest y q before none (r.newest_of mac) refl
      ];
      leads = λ y q known c is found to waits. elim (new_or_old y q is) [
        | inl now ↦
            let new : Reported = record { switch = s; pmac = x; recall = None; aged = false } in
            let one : new ≡ known = same_Some new known (sym h.known_here ∙ ap n.known_at now.0 ∙ found) in
            absurd (none-some c (ap (λ (k : Reported). k.recall) one ∙ to))
        | inr before ↦ still_leads y q known c before found to waits (r.newest_of mac) refl
      ];
      ips = λ y ip is. elim (ips.from y ip is) [
        | inl now ↦ record { reg = reg; found = ap n.at (sym now.0) ∙ h.here; own_ip = is_own ip now.1 }
        | inr before ↦ let it = good.ips y ip before in record { reg = it.reg; found = new_grows y it.reg it.found; own_ip = it.own_ip }
      ];
    }
