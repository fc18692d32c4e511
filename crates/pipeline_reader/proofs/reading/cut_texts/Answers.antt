use Rattle.std.proofs.Common.{rules, ◌≡◌, ◌+◌, ap, subst, sym, map, drop, length, arith, ℕ, List, [], ◌∷◌, Err, Vec, Global, Bor}
use Rattle.std.proofs.lemmas.{List.length-append, Str.is_utf8-from_IsUtf8}
use Rattle.pipeline_language.specs.FileReading.{Reads, first_text}
use Rattle.file_words.specs.Words.{lines_of}
use Rattle.pipeline_reader.proofs.LoopLemmas.{text_stops, texts_end, texts_more, text_found, no_text_found}
use Rattle.pipeline_reader.proofs.reading.cut_texts.Goals as goal

pub returns-in_default-clause-texts : goal.returns-in_default-clause-texts
returns-in_default-clause-texts c =
    let index : ℕ = c.loop-index.index in
    let lines : List (List ℕ) = lines_of c.loop-index.rest.now in
    let told = subst (λ e. Reads (λ (text : Bor (List ℕ)). text.now) (Err e) (first_text (index + 3) lines)) (sym c.at.ensures) (no_text_found (index + 3) lines c.in_default.ensures.line) in
    text_stops (λ (text : Bor (List ℕ)). text.now) (λ (cut : Vec (Bor (List ℕ)) Global × Bor (List ℕ)). (map (λ text. text.now) cut.0.items, lines_of cut.1.now))
    (map (λ text. text.now) c.loop-index.texts.items) c.args.count index (index + 3) lines _ c.at.result c.loop-index-test.true c.loop-index.invariant.read told

pub loop-index-preserved : goal.loop-index-preserved
loop-index-preserved c =
    let index : ℕ = c.loop-index.index in
    let lines : List (List ℕ) = lines_of c.loop-index.rest.now in
    let left : List (List ℕ) = lines_of c.in-Some.behind.now in
    let count : length c.push.new.self.items ≡ length c.loop-index.texts.items + 1 = omega (arith, ap length c.in_ok-push.ensures.items, length-append c.loop-index.texts.items (c.in-Some.line ∷ [])) in
    let whole : lines ≡ c.in-Some.line.now ∷ left = c.in-Some.ensures.line in
    record {
      text = c.in-Some.ensures.text.1;
      within = omega (arith, c.loop-index-test.true);
      number = omega (arith, count, c.loop-index.invariant.number);
      taken = omega (arith, count, c.loop-index.invariant.taken, ap length whole);
      read = texts_more (λ text. text.now) c.loop-index.texts.items c.push.new.self.items c.in-Some.line c.args.count index lines left _ c.loop-index-test.true c.in_ok-push.ensures.items (sym (ap (drop 1) whole)) c.loop-index.invariant.read
          (text_found (index + 3) lines left c.in-Some.line.now (is_utf8-from_IsUtf8 _ c.in-Some.ensures.text.0) whole);
    }

pub returns-clause-texts : goal.returns-clause-texts
returns-clause-texts c =
    let index : ℕ = c.loop-index.index in
    let same : index ≡ c.args.count = omega (arith, c.loop-index-test.false, c.loop-index.invariant.within) in
    texts_end (map (λ text. text.now) c.loop-index.texts.items) c.args.count index (index + 3) (lines_of c.loop-index.rest.now) _ same c.loop-index.invariant.read

-- bounded: a wrong body would search to its limit
pub loop-index-init : goal.loop-index-init
loop-index-init c = search rules fits 60 depth 3
