pub mod Words
pub mod Segment
pub mod Checksum
pub mod Flags
pub mod WordLaws
pub mod FlowLaws
pub mod SegmentLaws
pub mod ChecksumLaws
