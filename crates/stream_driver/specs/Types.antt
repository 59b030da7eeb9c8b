-- The types of this crate and their variants, under names of their own.
pub use Rattle.stream_driver.specs.declared.answers.Call.{Call}
pub use Rattle.stream_driver.specs.declared.answers.Call.TheVariants.{Read, Write}
pub use Rattle.stream_driver.specs.declared.answers.Progress.{Progress}
pub use Rattle.stream_driver.specs.declared.answers.Progress.TheVariants.{Waiting, Again, Gone}
pub use Rattle.stream_driver.specs.declared.answers.ReadAnswer.{ReadAnswer}
pub use Rattle.stream_driver.specs.declared.answers.ReadAnswer.TheVariants.{Moved, Blocked, Failed, Ended}
pub use Rattle.stream_driver.specs.declared.answers.WriteAnswer.{WriteAnswer}
pub use Rattle.stream_driver.specs.declared.answers.WriteAnswer.TheVariants.{Moved as Wrote, Blocked as WriteBlocked}
pub use Rattle.stream_driver.specs.declared.answers.WriteAnswer.TheVariants.{Failed as WriteFailed}
pub use Rattle.stream_driver.specs.declared.buffered.BufferedStream.{BufferedStream}
pub use Rattle.stream_driver.specs.declared.buffered.Flushed.{Flushed}
pub use Rattle.stream_driver.specs.declared.buffered.Flushed.TheVariants.{All, Blocked as FlushedBlocked}
pub use Rattle.stream_driver.specs.declared.buffered.Flushed.TheVariants.{Failed as FlushedFailed}
pub use Rattle.stream_driver.specs.declared.counts.CallCounts.{CallCounts}
pub use Rattle.stream_driver.specs.declared.driving.Exchange.{Exchange}
pub use Rattle.stream_driver.specs.declared.driving.Exchange.TheVariants.{Replied, Starved}
pub use Rattle.stream_driver.specs.declared.driving.Exchange.TheVariants.{Blocked as ExchangeBlocked}
pub use Rattle.stream_driver.specs.declared.driving.Exchange.TheVariants.{Failed as ExchangeFailed}
pub use Rattle.stream_driver.specs.declared.driving.Exchange.TheVariants.{Ended as ExchangeEnded}
pub use Rattle.stream_driver.specs.declared.driving.OutputState.{OutputState}
pub use Rattle.stream_driver.specs.declared.driving.OutputState.TheVariants.{Empty, Blocked as FlushBlocked}
pub use Rattle.stream_driver.specs.declared.driving.OutputState.TheVariants.{Failed as FlushFailed}
pub use Rattle.stream_driver.specs.declared.entries.Entry.{Entry}
pub use Rattle.stream_driver.specs.declared.entries.EntryState.{EntryState}
pub use Rattle.stream_driver.specs.declared.entries.EntryState.TheVariants.{Idle, Ready, Gone as EntryGone}
pub use Rattle.stream_driver.specs.declared.buffered_bytes.BufferedBytes.{BufferedBytes}
pub use Rattle.stream_driver.specs.declared.stream.ShareEnd.{ShareEnd}
pub use Rattle.stream_driver.specs.declared.stream.ShareEnd.TheVariants.{Appended, Looked}
