-- What contracts may say about a source over a reader and a sink over a writer: the reader or writer inside, and the number of
-- failed calls. Our own. The contracts of `ReaderSource` and `WriterSink` rely on it.
use Rattle.std.specs.Prelude.{ℕ}
use Rattle.vx_io.specs.declared.outside.reader.ReaderSource.{ReaderSource}
use Rattle.vx_io.specs.declared.outside.writer.WriterSink.{WriterSink}

-- The reader inside a source.
abbrev pub reader_of : {R : Type 0} → ReaderSource R → R
reader_of s = s.from

-- The number of its reads that failed.
abbrev pub read_fault_count : {R : Type 0} → ReaderSource R → ℕ
read_fault_count s = s.faults

-- The writer inside a sink.
abbrev pub writer_of : {W : Type 0} → WriterSink W → W
writer_of s = s.to

-- The number of its writes that failed.
abbrev pub write_fault_count : {W : Type 0} → WriterSink W → ℕ
write_fault_count s = s.faults
