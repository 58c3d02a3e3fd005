-- What an edge switch makes of a vote, if it went on to the next position for a reason.
use Rattle.std.proofs.Common.{◌≡◌, ℕ, ◌+◌, ◌*◌, ◌%◌, ◌<◌, ◌≤◌, ◌==◌, ◌&&◌, ◌||◌, nat_cmp, nat_lt, Bool, true, false, true≢false, if◌then◌else◌, [], length, Option, Some, None, is_none, refl, sym, ◌∙◌, ap, subst, arith, inl, inr, ◌⊎◌, eqb-true, ltb-true, ltb-false}
use Rattle.std.specs.BTreeSet.{insert_key}
use Rattle.std.proofs.lemmas.Bool.{and_parts, cases_lt}
use Rattle.pl_lemmas.proofs.Exports.{is_none_is}
use Rattle.pl_frame.specs.declared.address.SwitchId.{SwitchId}
use Rattle.pl_layouts.specs.declared.control.Vote.{Vote as Answer}
use Rattle.pl_layouts.specs.Placement.{is_known}
use Rattle.pl_layouts.specs.Votes.{counts, gives_way, is_smaller}
use Rattle.pl_layouts.proofs.Exports.{known_is}
use Rattle.pl_node.specs.SwitchViews.{SwitchView}
use Rattle.pl_switch_rule.specs.Positions.{after_vote, counted, fixes_position, half, is_majority, moves_on, with_granted}
use Rattle.pl_law_placing.specs.Trying.{HasReason, IsHolder, IsTrying, NamesSomeHolder}
use Rattle.pl_law_placing.specs.Trying.HasReason.{IsBehind, IsTaken}

-- what a vote that counts says of the switch
pub record IsCounted (v : SwitchView) (vote : Answer) : Type 0 where
  pub level : v.place.level ≡ Some 0
  pub none : v.place.position ≡ None
  pub attempt : vote.attempt ≡ v.attempt
  pub position : vote.position ≡ v.proposed

pub counts_says : (v : SwitchView) (vote : Answer) → counts v.place v.attempt v.proposed vote ≡ true → IsCounted v vote
counts_says v vote h =
    let a = and_parts (is_known v.place.level 0 && is_none v.place.position && (vote.attempt == v.attempt)) (vote.position == v.proposed) h in
    let b = and_parts (is_known v.place.level 0 && is_none v.place.position) (vote.attempt == v.attempt) a.0 in
    let c = and_parts (is_known v.place.level 0) (is_none v.place.position) b.0 in
    record {
      level = known_is v.place.level 0 c.0;
      none = is_none_is v.place.position c.1;
      attempt = eqb-true vote.attempt v.attempt b.1;
      position = eqb-true vote.position v.proposed a.1;
    }

-- What comes of a vote: the attempt stays, or the next one begins, since the vote counts and gives way.
pub data Becomes (v : SwitchView) (vote : Answer) (after : SwitchView) : Type 0 where
  Stays : after.attempt ≡ v.attempt → Becomes v vote after
  MovesOn : IsCounted v vote → gives_way v.id vote ≡ true → (v.attempt ≡ 4294967295 → ⊥) → after.attempt ≡ v.attempt + 1 → Becomes v vote after

module _ (v : SwitchView) (port : ℕ) (vote : Answer) where
  pub vote_becomes : Becomes v vote (after_vote v port vote)
  vote_becomes = by (counts v.place v.attempt v.proposed vote) refl
    where
      next : IsCounted v vote → gives_way v.id vote ≡ true → (b : Bool) → (v.attempt == 4294967295) ≡ b →
          Becomes v vote (if◌then◌else◌ {A = SwitchView} b v (record v { attempt = v.attempt + 1; proposed = (v.proposed + 1) % half v.k; granted = [] }))
      next is way true last = Stays refl
      next is way false last = MovesOn is way (λ at. absurd (true≢false (sym (ap (λ n. n == 4294967295) at) ∙ last))) refl

      granted : IsCounted v vote → (b c : Bool) → gives_way v.id vote ≡ c →
          Becomes v vote (if◌then◌else◌ {A = SwitchView} b (fixes_position (with_granted v port)) (if c then moves_on v else v))
      granted is true c way = Stays refl
      granted is false true way = next is way (v.attempt == 4294967295) refl
      granted is false false way = Stays refl

      by : (b : Bool) → counts v.place v.attempt v.proposed vote ≡ b → Becomes v vote (if◌then◌else◌ {A = SwitchView} b (counted v port vote) v)
      by true is = granted (counts_says v vote is) vote.granted (gives_way v.id vote) refl
      by false is = Stays refl

  pub vote_trying : 1 ≤ v.attempt → IsTrying v → IsTrying (after_vote v port vote)
  vote_trying begun t = by (counts v.place v.attempt v.proposed vote)
    where
      fixes : (b : Bool) → is_majority (with_granted v port) ≡ b →
          IsTrying (record (with_granted v port) { place = record v.place { position = if b then Some v.proposed else v.place.position } })
      fixes true most = record { first = t.first; few = λ none. absurd (cc none) }
      fixes false most = record { first = t.first; few = λ none. ltb-false (half v.k) (2 * length (insert_key nat_cmp v.granted port)) most }

      next : (b : Bool) → IsTrying (if◌then◌else◌ {A = SwitchView} b v (record v { attempt = v.attempt + 1; proposed = (v.proposed + 1) % half v.k; granted = [] }))
      next true = t
      next false = record { first = λ one. absurd (omega (arith, begun, one)); few = λ none. omega arith }

      granted : (b c : Bool) → IsTrying (if◌then◌else◌ {A = SwitchView} b (fixes_position (with_granted v port)) (if c then moves_on v else v))
      granted true c = fixes (is_majority (with_granted v port)) refl
      granted false true = next (v.attempt == 4294967295)
      granted false false = t

      by : (b : Bool) → IsTrying (if◌then◌else◌ {A = SwitchView} b (counted v port vote) v)
      by true = granted vote.granted (gives_way v.id vote)
      by false = t

-- a vote that gives way names the reason
pub reason_of : (k : ℕ) (view : ℕ → SwitchView) (pod : ℕ) (v : SwitchView) (vote : Answer) → 1 ≤ v.attempt → IsTrying v → IsCounted v vote →
    gives_way v.id vote ≡ true → NamesSomeHolder k view pod vote.position vote.fixed vote.holder → (1 < v.attempt → HasReason k view pod v.id) → HasReason k view pod v.id
reason_of k view pod v vote begun t is way names old = by vote.fixed vote.holder way names (v.attempt == 1) refl
  where
    behind : (fixed : Bool) (holder : SwitchId) → IsHolder k view pod vote.position holder fixed → nat_lt holder.0 v.id.0 ≡ true → HasReason k view pod v.id
    behind fixed holder names less =
        IsBehind names.i names.edge names.level (subst (λ (x : SwitchId). x.0 < v.id.0) (sym names.named) (ltb-true holder.0 v.id.0 less))

    taken : (holder : SwitchId) → IsHolder k view pod vote.position holder true → (b : Bool) → (v.attempt == 1) ≡ b → HasReason k view pod v.id
    taken holder names true first =
        IsTaken names.i names.edge (names.so refl ∙ ap Some (is.position ∙ t.first (eqb-true v.attempt 1 first)))
    taken holder names false first = old (elim (at v.attempt begun) [ inl one ↦ absurd (true≢false (sym (ap (λ n. n == 1) one) ∙ first)) | inr more ↦ more ])
      where
        at : (n : ℕ) → 1 ≤ n → (n ≡ 1) ⊎ (1 < n)
        at n begun = elim (cases_lt 1 n) [ inl more ↦ inr more | inr less ↦ inl (omega (arith, begun, less)) ]

    by : (fixed : Bool) (holder : Option SwitchId) → (fixed || is_smaller holder v.id) ≡ true → NamesSomeHolder k view pod vote.position fixed holder →
        (b : Bool) → (v.attempt == 1) ≡ b → HasReason k view pod v.id
    by true None way names b first = absurd (true≢false names)
    by true (Some holder) way names b first = taken holder names b first
    by false None way names b first = absurd (true≢false (sym way))
    by false (Some holder) way names b first = behind false holder names way
