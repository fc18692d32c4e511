-- Where blocks stand in the known bytes, and what is told of them.
use Rattle.std.specs.Prelude.{◌≡◌, ◌≤◌, ◌+◌, ℕ, List, [], ◌++◌, Option, Some, None, length}
use Rattle.std.proofs.Common.{ap, sym, subst, ◌∙◌, append_assoc, arith, length-append}
use Rattle.std.specs.Str.{IsUtf8}
use Rattle.std.proofs.lemmas.Str.{IsUtf8-append, IsUtf8-nil}
use Rattle.std.specs.Io.KnownBytes.{Keeps, prepend_known}
use Rattle.line_blocks.specs.declared.error.LinesError.{LinesError}
use Rattle.line_blocks.specs.declared.error.LinesError.TheVariants.{NoMemory, NotUtf8, LongLine, Read, TooLong}
use Rattle.sources.specs.Lines.{LacksLineFeed}
use Rattle.line_blocks.proofs.Places.{valid-behind}
use Rattle.line_blocks.specs.Blocks.{TakesBlock}
use Rattle.line_blocks.specs.Faults.{StandsAt, IsFault, IsBadBlock, IsLongFront, IsNoFault}

-- behind one more block of text
pub stands-more : (all before after : Option (List ℕ)) (block : List ℕ) (place next : ℕ) → StandsAt all before place → TakesBlock before block after → IsUtf8 block
    → next ≡ place + length block → StandsAt all after next
stands-more None before after block place next at taken text next_is = tt
stands-more (Some xs) None after block place next at taken text next_is = absurd at
stands-more (Some xs) (Some ys) None block place next at taken text next_is = absurd taken
stands-more (Some xs) (Some ys) (Some zs) block place next at taken text next_is =
    let behind = at.length_is in
    record {
      front = at.front ++ block;
      bytes = at.bytes ∙ ap (λ l. at.front ++ l) taken.bytes ∙ sym (append_assoc at.front block zs);
      length_is = omega (arith, next_is, behind, length-append at.front block);
      text = IsUtf8-append at.front block at.text text;
    }

-- what is told of no byte is no fault
pub no-fault : (size : ℕ) (all : Option (List ℕ)) (e : LinesError) → IsNoFault e → IsFault size all e
no-fault size None e h = tt
no-fault size (Some xs) NoMemory h = tt
no-fault size (Some xs) (NotUtf8 place) h = absurd h
no-fault size (Some xs) (LongLine place) h = absurd h
no-fault size (Some xs) (Read e) h = tt
no-fault size (Some xs) TooLong h = tt

-- a block that is no text
pub bad-block : (size : ℕ) (all before after : Option (List ℕ)) (block : List ℕ) (place : ℕ) (e : LinesError) → StandsAt all before place → TakesBlock before block after
    → IsBadBlock block place e → IsFault size all e
bad-block size None before after block place e at taken h = tt
bad-block size (Some xs) None after block place e at taken h = absurd at
bad-block size (Some xs) (Some ys) None block place e at taken h = absurd taken
bad-block size (Some xs) (Some ys) (Some zs) block place NoMemory at taken h = tt
bad-block size (Some xs) (Some ys) (Some zs) block place (NotUtf8 k) at taken h = valid-behind xs ys block zs place h.0 k at taken h.1 h.2
bad-block size (Some xs) (Some ys) (Some zs) block place (LongLine k) at taken h = absurd h
bad-block size (Some xs) (Some ys) (Some zs) block place (Read e) at taken h = tt
bad-block size (Some xs) (Some ys) (Some zs) block place TooLong at taken h = tt

-- what was read has no line feed, and is no shorter than the longest line
pub long-front : (longest place : ℕ) (before known : Option (List ℕ)) (bytes : List ℕ) → Keeps before (prepend_known bytes known) → longest ≤ length bytes
    → LacksLineFeed bytes 0 (length bytes) → (at : ℕ) → at ≡ place → IsLongFront longest before place (LongLine at)
long-front longest place None known bytes kept long lacks at is = is
long-front longest place (Some xs) None bytes kept long lacks at is = absurd kept
long-front longest place (Some xs) (Some ys) bytes kept long lacks at is = (bytes, ys, sym kept, long, lacks, is)

-- a line that is no shorter than the longest
pub long-line : (size : ℕ) (all before : Option (List ℕ)) (place : ℕ) (e : LinesError) → StandsAt all before place → IsLongFront size before place e → IsFault size all e
long-line size None before place e at h = tt
long-line size (Some xs) None place e at h = absurd at
long-line size (Some xs) (Some ys) place NoMemory at h = tt
long-line size (Some xs) (Some ys) place (NotUtf8 k) at h = absurd h
long-line size (Some xs) (Some ys) place (LongLine k) at h = record {
  front = at.front;
  line = h.0;
  rest = h.1;
  bytes = at.bytes ∙ ap (λ l. at.front ++ l) h.2 ∙ sym (append_assoc at.front h.0 h.1);
  text = at.text;
  long = h.3;
  unbroken = h.4;
  place_is = h.5 ∙ at.length_is;
}
long-line size (Some xs) (Some ys) place (Read e) at h = tt
long-line size (Some xs) (Some ys) place TooLong at h = tt

-- nothing was taken off yet
pub stands-first : (all left : Option (List ℕ)) (rest : List ℕ) (place : ℕ) → left ≡ all → rest ≡ [] → place ≡ 0 → StandsAt all (prepend_known rest left) place
stands-first None left rest place same none zero = tt
stands-first (Some xs) left rest place same none zero = subst (λ k. StandsAt (Some xs) (prepend_known rest k) place) (sym same) (record {
  front = [];
  bytes = sym (ap (λ r. r ++ xs) none);
  length_is = zero;
  text = IsUtf8-nil;
})
