pub mod RetryLaws
