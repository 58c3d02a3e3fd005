use Rattle.std.proofs.Common.{◌≡◌, ◌<◌, drop, get_or, sym, ap, ◌∙◌, subst}
use Rattle.std.specs.Str.{IsCharBoundary}
use Rattle.pl_script.specs.Texts.{is_blank, words_of}
use Rattle.pl_script.proofs.WordLemmas.{start, words_of-start, begins_with_word, cut_at_start}
use Rattle.pl_script.proofs.words.without_blanks.Goals as goal

pub range_from-requires : goal.range_from-requires
range_from-requires c = λ positive.
    let at : c.blank_len-blanks.result ≡ start c.args.text.now = c.blank_len-blanks.ensures ∙ ap start c.as_bytes.ensures.value in
    subst (λ n. IsCharBoundary c.args.text.now n) (sym at)
    (cut_at_start c.args.text.now c.utf8.text (subst (λ n. 0 < n) at positive))

pub returns-clause-words : goal.returns-clause-words
returns-clause-words c =
    let at : c.blank_len-blanks.result ≡ start c.args.text.now = c.blank_len-blanks.ensures ∙ ap start c.as_bytes.ensures.value in
    ap words_of (c.range_from.ensures.value ∙ ap (λ n. drop n c.args.text.now) at)
    ∙ words_of-start c.args.text.now

pub returns-clause-begins : goal.returns-clause-begins
returns-clause-begins c =
    let at : c.blank_len-blanks.result ≡ start c.args.text.now = c.blank_len-blanks.ensures ∙ ap start c.as_bytes.ensures.value in
    let is : c.range_from.result.now ≡ drop (start c.args.text.now) c.args.text.now =
    c.range_from.ensures.value ∙ ap (λ n. drop n c.args.text.now) at in
    λ some. ap (λ text. is_blank (get_or text 0 0)) is ∙ begins_with_word c.args.text.now (λ none. some (is ∙ none))
