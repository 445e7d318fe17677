use Rattle.std.proofs.Common.{ℕ, ◌≤◌, ◌^◌, length, inl, arith}
use Rattle.std.proofs.lemmas.Result.{err_from_is_err_and}
use Rattle.py_data.specs.declared.record.Record.{Record}
use Rattle.py_data.specs.Made.{rec_of}
use Rattle.py_data.specs.Shape.{IsShaped}
use Rattle.seg_store.specs.Meaning.{sees}
use Rattle.seg_store.proofs.Stores.{told}
use Rattle.page_table.specs.Lists.{table_of}
use Rattle.paged_store.specs.declared.store.PagedStore.{PagedStore}
use Rattle.paged_store.specs.Stores.{paged_meaning}
use Rattle.paged_store.specs.inner.Making.{FitsBody}
use Rattle.paged_store.proofs.StoreCalls.{segment_in, segment_marks, free_granule}
use Rattle.paged_store.proofs.StoreEnds.{table_segment}
use Rattle.paged_store.proofs.MakeStore.{make_refused, make_over, placed_rises, placed_fits, shape_one, made_short, made_body, make_refuses, make_asks, untaken_stands, placed_free, placed_can, placed_blank, placed_within, placed_stands}
use Rattle.paged_store.proofs.store.PagedStore.make_record.Goals as goal

-- a record of its kind's shape fits the body that it is made with
fits_body : (s : PagedStore) (k : ℕ) (r : Record) → IsShaped (sees (paged_meaning s) k) (rec_of r)
    → length r.values ≤ 2 ^ 20 → length r.bytes ≤ 2 ^ 20 → FitsBody r
fits_body s k r shape values bytes =
    made_body r (shape_one (sees (paged_meaning s) k) r shape) (made_short r values bytes)

pub index_mut-draft-requires : goal.index_mut-draft-requires
index_mut-draft-requires c = let l = segment_in c.args.self.now c.args.k c.requires.segment in
    omega (arith, l, c.args.self.now.drafts.ok.0)

pub make-requires-clause-segment : goal.make-requires-clause-segment
make-requires-clause-segment c = table_segment c.args.self.now c.args.k c.requires.segment

pub make-requires-clause-fits : goal.make-requires-clause-fits
make-requires-clause-fits c = fits_body c.args.self.now c.args.k c.args.r.now c.requires.shape c.requires.values
    c.requires.bytes

pub invariant_of-self : goal.invariant_of-self
invariant_of-self c = record {
  sound = (untaken_stands c.args.self.now c.args.k c.requires.segment c.index_mut-draft.result.now
      c.index_mut-draft.ensures.value
      c.make.new.draft c.make.new.pages c.make.ensures.within c.in_err-a.ensures.err).sound;
}

pub returns-in_err-a-clause-err : goal.returns-in_err-a-clause-err
returns-in_err-a-clause-err c = told c.from_residual.result
    (untaken_stands c.args.self.now c.args.k c.requires.segment c.index_mut-draft.result.now
    c.index_mut-draft.ensures.value
    c.make.new.draft c.make.new.pages c.make.ensures.within c.in_err-a.ensures.err).means

pub returns-in_err-a-clause-cause : goal.returns-in_err-a-clause-cause
returns-in_err-a-clause-cause c =
    let p = err_from_is_err_and c.from_residual.result c.from_residual.ensures.1 in
    rw (p.1, p.2) (make_refuses c.args.self.now c.args.r.now (table_of c.make.new.pages) _ c.in_err-a.ensures.cause)

pub returns-in_err-a-clause-asked : goal.returns-in_err-a-clause-asked
returns-in_err-a-clause-asked c =
    let p = err_from_is_err_and c.from_residual.result c.from_residual.ensures.1 in
    rw (p.1, p.2) (make_asks c.args.r.now (table_of c.args.self.now.pages) (table_of c.make.new.pages) _
    c.in_err-a.ensures.cause)

pub returns-in_err-a-clause-over : goal.returns-in_err-a-clause-over
returns-in_err-a-clause-over c =
    let p = err_from_is_err_and c.from_residual.result c.from_residual.ensures.1 in
    rw (p.1, p.2) (make_over c.args.self.now (table_of c.make.new.pages) c.args.r.now _ c.make.ensures.filled
    c.make.ensures.rises c.in_err-a.ensures.cause)

pub index_made-requires-clause-can : goal.index_made-requires-clause-can
index_made-requires-clause-can c = placed_can c.args.self.now c.args.k c.requires.segment
    c.index_mut-draft.result.now c.index_mut-draft.ensures.value c.make.new.draft c.make.new.pages c.args.r.now
    c.in_ok-a.a.0 (fits_body c.args.self.now c.args.k c.args.r.now c.requires.shape c.requires.values c.requires.bytes)
    c.in_ok-a.ensures.ok c.requires.values c.requires.bytes c.requires.shape c.known_record.ensures

pub index_made-requires-clause-blank : goal.index_made-requires-clause-blank
index_made-requires-clause-blank c = placed_blank c.args.self.now c.args.k c.requires.segment
    c.index_mut-draft.result.now c.index_mut-draft.ensures.value c.make.new.draft c.make.new.pages c.args.r.now
    c.in_ok-a.a.0 (fits_body c.args.self.now c.args.k c.args.r.now c.requires.shape c.requires.values c.requires.bytes)
    c.in_ok-a.ensures.ok c.requires.values c.requires.bytes c.requires.shape c.known_record.ensures

pub lock-requires-clause-segment : goal.lock-requires-clause-segment
lock-requires-clause-segment c = segment_marks c.args.self.now c.args.k c.requires.segment

pub lock-requires-clause-granule : goal.lock-requires-clause-granule
lock-requires-clause-granule c = placed_within c.args.self.now c.args.k c.requires.segment
    c.index_mut-draft.result.now c.index_mut-draft.ensures.value c.make.new.draft c.make.new.pages c.args.r.now
    c.in_ok-a.a.0 (fits_body c.args.self.now c.args.k c.args.r.now c.requires.shape c.requires.values c.requires.bytes)
    c.in_ok-a.ensures.ok c.requires.values c.requires.bytes c.requires.shape c.known_record.ensures
    c.index_made.new.pages c.index_made.ensures.puts c.make.ensures.within

pub lock-requires-clause-free : goal.lock-requires-clause-free
lock-requires-clause-free c = inl (free_granule c.args.self.now c.in_ok-a.a.0
    (placed_free c.args.self.now c.args.k c.requires.segment
    c.index_mut-draft.result.now c.index_mut-draft.ensures.value c.make.new.draft c.make.new.pages c.args.r.now
    c.in_ok-a.a.0 (fits_body c.args.self.now c.args.k c.args.r.now c.requires.shape c.requires.values c.requires.bytes)
    c.in_ok-a.ensures.ok).held)

pub invariant_of-self-2 : goal.invariant_of-self-2
invariant_of-self-2 c = record {
  sound = (placed_stands c.args.self.now c.args.k c.requires.segment c.index_mut-draft.result.now
      c.index_mut-draft.ensures.value c.make.new.draft c.make.new.pages c.args.r.now
      c.in_ok-a.a.0
      (fits_body c.args.self.now c.args.k c.args.r.now c.requires.shape c.requires.values c.requires.bytes)
      c.in_ok-a.ensures.ok c.requires.values c.requires.bytes c.requires.shape c.known_record.ensures
      c.index_made.new.pages c.index_made.ensures.puts c.make.ensures.within c.lock.new.self c.lock.ensures.sizes
      c.lock.ensures.marks c.lock.ensures.holders c.index_made.ensures.index).sound;
}

pub returns-clause-fresh : goal.returns-clause-fresh
returns-clause-fresh c = placed_free c.args.self.now c.args.k c.requires.segment c.index_mut-draft.result.now
    c.index_mut-draft.ensures.value c.make.new.draft c.make.new.pages c.args.r.now
    c.in_ok-a.a.0 (fits_body c.args.self.now c.args.k c.args.r.now c.requires.shape c.requires.values c.requires.bytes)
    c.in_ok-a.ensures.ok

pub returns-clause-ok : goal.returns-clause-ok
returns-clause-ok c = (placed_stands c.args.self.now c.args.k c.requires.segment c.index_mut-draft.result.now
    c.index_mut-draft.ensures.value c.make.new.draft c.make.new.pages c.args.r.now
    c.in_ok-a.a.0 (fits_body c.args.self.now c.args.k c.args.r.now c.requires.shape c.requires.values c.requires.bytes)
    c.in_ok-a.ensures.ok c.requires.values c.requires.bytes c.requires.shape c.known_record.ensures
    c.index_made.new.pages c.index_made.ensures.puts c.make.ensures.within c.lock.new.self c.lock.ensures.sizes
    c.lock.ensures.marks c.lock.ensures.holders c.index_made.ensures.index).means

pub returns-in_err-a-clause-rises_err : goal.returns-in_err-a-clause-rises_err
returns-in_err-a-clause-rises_err c = told c.from_residual.result
    (make_refused c.args.self.now (table_of c.make.new.pages) c.args.r.now c.make.ensures.rises)

pub returns-clause-rises : goal.returns-clause-rises
returns-clause-rises c = placed_rises c.args.self.now c.args.k c.requires.segment c.index_mut-draft.result.now
    c.index_mut-draft.ensures.value c.make.new.draft c.make.new.pages c.args.r.now
    c.in_ok-a.a.0 (fits_body c.args.self.now c.args.k c.args.r.now c.requires.shape c.requires.values c.requires.bytes)
    c.in_ok-a.ensures.ok c.requires.values c.requires.bytes c.requires.shape c.known_record.ensures
    c.index_made.new.pages c.index_made.ensures.puts c.lock.new.self c.make.ensures.rises
    (placed_stands c.args.self.now c.args.k c.requires.segment c.index_mut-draft.result.now
    c.index_mut-draft.ensures.value c.make.new.draft c.make.new.pages c.args.r.now
    c.in_ok-a.a.0 (fits_body c.args.self.now c.args.k c.args.r.now c.requires.shape c.requires.values c.requires.bytes)
    c.in_ok-a.ensures.ok c.requires.values c.requires.bytes c.requires.shape c.known_record.ensures
    c.index_made.new.pages c.index_made.ensures.puts c.make.ensures.within c.lock.new.self c.lock.ensures.sizes
    c.lock.ensures.marks c.lock.ensures.holders c.index_made.ensures.index).sound.fine

pub returns-clause-fits : goal.returns-clause-fits
returns-clause-fits c = placed_fits c.args.self.now c.args.k c.requires.segment c.index_mut-draft.result.now
    c.index_mut-draft.ensures.value c.make.new.draft c.make.new.pages c.args.r.now
    c.in_ok-a.a.0 (fits_body c.args.self.now c.args.k c.args.r.now c.requires.shape c.requires.values c.requires.bytes)
    c.in_ok-a.ensures.ok c.requires.values c.requires.bytes c.requires.shape c.known_record.ensures
    c.index_made.new.pages c.index_made.ensures.puts c.lock.new.self c.make.ensures.rises c.make.ensures.within
    c.make.ensures.filled
    (placed_stands c.args.self.now c.args.k c.requires.segment c.index_mut-draft.result.now
    c.index_mut-draft.ensures.value c.make.new.draft c.make.new.pages c.args.r.now
    c.in_ok-a.a.0 (fits_body c.args.self.now c.args.k c.args.r.now c.requires.shape c.requires.values c.requires.bytes)
    c.in_ok-a.ensures.ok c.requires.values c.requires.bytes c.requires.shape c.known_record.ensures
    c.index_made.new.pages c.index_made.ensures.puts c.make.ensures.within c.lock.new.self c.lock.ensures.sizes
    c.lock.ensures.marks c.lock.ensures.holders c.index_made.ensures.index).sound.fine
