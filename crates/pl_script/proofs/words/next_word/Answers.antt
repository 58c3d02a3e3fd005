use Rattle.std.proofs.Common.{◌≡◌, ◌<◌, ◌∷◌, take, drop, length, sym, ap, ◌∙◌, subst, arith}
use Rattle.std.specs.List.{position_or_len}
use Rattle.std.specs.Str.{IsCharBoundary}
use Rattle.std.proofs.lemmas.Bool.{eqb-false}
use Rattle.std.proofs.lemmas.Slice.{between_from_start}
use Rattle.pl_script.specs.Texts.{is_blank, words_of}
use Rattle.pl_script.proofs.WordLemmas.{words_of-word, cut_at_end}
use Rattle.pl_script.proofs.words.next_word.Goals as goal

pub range-requires-clause-end_boundary : goal.range-requires-clause-end_boundary
range-requires-clause-end_boundary c =
    let at : c.word_len-end.result ≡ position_or_len is_blank c.without_blanks-text.result.now =
    c.word_len-end.ensures ∙ ap (position_or_len is_blank) c.as_bytes.ensures.value in
    subst (λ n. IsCharBoundary c.without_blanks-text.result.now n) (sym at) (cut_at_end c.without_blanks-text.result.now)

pub range_from-requires : goal.range_from-requires
range_from-requires c = λ positive.
    let at : c.word_len-end.result ≡ position_or_len is_blank c.without_blanks-text.result.now =
    c.word_len-end.ensures ∙ ap (position_or_len is_blank) c.as_bytes.ensures.value in
    subst (λ n. IsCharBoundary c.without_blanks-text.result.now n) (sym at) (cut_at_end c.without_blanks-text.result.now)

pub returns-clause-found : goal.returns-clause-found
returns-clause-found c =
    let at : c.word_len-end.result ≡ position_or_len is_blank c.without_blanks-text.result.now =
    c.word_len-end.ensures ∙ ap (position_or_len is_blank) c.as_bytes.ensures.value in
    let some : 0 < length c.without_blanks-text.result.now =
    omega (arith, eqb-false (length c.without_blanks-text.result.now) 0 (sym c.is_empty.ensures ∙ c.if-is_empty.false)) in
    let word : c.range.result.now ≡ take (position_or_len is_blank c.without_blanks-text.result.now) c.without_blanks-text.result.now =
    c.range.ensures.value ∙ between_from_start c.without_blanks-text.result.now c.word_len-end.result ∙ ap (λ n. take n c.without_blanks-text.result.now) at in
    let rest : c.range_from.result.now ≡ drop (position_or_len is_blank c.without_blanks-text.result.now) c.without_blanks-text.result.now =
    c.range_from.ensures.value ∙ ap (λ n. drop n c.without_blanks-text.result.now) at in
    sym c.without_blanks-text.ensures.words
    ∙ words_of-word c.without_blanks-text.result.now some (c.without_blanks-text.ensures.begins (λ none. absurd (omega (arith, ap length none))))
    ∙ ap (λ word. word ∷ words_of (drop (position_or_len is_blank c.without_blanks-text.result.now) c.without_blanks-text.result.now)) (sym word)
    ∙ ap (λ rest. c.range.result.now ∷ words_of rest) (sym rest)
